use Rattle.std.proofs.Common.{◌≡◌, ◌+◌, ◌*◌, ◌≤◌, ◌++◌, drop}
use Rattle.std.specs.Prelude.{sum}
use Rattle.zarr_grids_dimensions.specs.RepeatedEdges.{counts, lengths, running}
use Rattle.zarr_grids_dimensions.proofs.varying.first_places_of.Given as goal

-- what is left goes on from what was summed, and no chunk so far has more than 2^64 - 1 places
abbrev pub invariant-loop-repeat : goal.invariant-loop-repeat
invariant-loop-repeat l = record {
  running : running 0 (lengths l.repeats) ≡ l.places.items ++ running l.next (lengths (drop l.repeat-index l.repeats));
  few : l.next + sum (counts (drop l.repeat-index l.repeats)) * 18446744073709551615 ≤ sum (counts l.repeats) * 18446744073709551615;
}
