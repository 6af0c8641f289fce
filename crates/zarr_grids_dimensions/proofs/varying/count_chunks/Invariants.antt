use Rattle.std.proofs.Common.{◌≡◌, ◌+◌, ◌<◌, ◌^◌, drop}
use Rattle.std.specs.Prelude.{sum}
use Rattle.zarr_grids_dimensions.specs.RepeatedEdges.{counts}
use Rattle.zarr_grids_dimensions.proofs.varying.count_chunks.Given as goal

abbrev pub invariant-loop-repeat : goal.invariant-loop-repeat
invariant-loop-repeat l = record {
  total : sum (counts l.repeats) ≡ l.count + sum (counts (drop l.repeat-index l.repeats));
  few : l.count < 2 ^ 64;
}
