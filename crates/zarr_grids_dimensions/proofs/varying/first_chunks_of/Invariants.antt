use Rattle.std.proofs.Common.{◌≡◌, ◌+◌, ◌++◌, drop}
use Rattle.std.specs.Prelude.{sum}
use Rattle.zarr_grids_dimensions.specs.RepeatedEdges.{counts, running}
use Rattle.zarr_grids_dimensions.proofs.varying.first_chunks_of.Given as goal

-- what is left goes on from what was summed
abbrev pub invariant-loop-repeat : goal.invariant-loop-repeat
invariant-loop-repeat l = record {
  running : running 0 (counts l.repeats) ≡ l.chunks.items ++ running l.next (counts (drop l.repeat-index l.repeats));
  total : sum (counts l.repeats) ≡ l.next + sum (counts (drop l.repeat-index l.repeats));
}
