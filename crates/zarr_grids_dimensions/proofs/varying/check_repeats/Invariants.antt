use Rattle.std.proofs.Common.{◌≡◌, drop}
use Rattle.zarr_grids_dimensions.specs.RepeatedEdges.{counts, edges}
use Rattle.zarr_grids_dimensions.specs.Lookups.{all_positive}
use Rattle.zarr_grids_dimensions.proofs.varying.check_repeats.Given as goal

-- what is left answers as the whole
abbrev pub invariant-loop-repeat : goal.invariant-loop-repeat
invariant-loop-repeat l = record {
  edges : all_positive (edges l.repeats) ≡ all_positive (edges (drop l.repeat-index l.repeats));
  counts : all_positive (counts l.repeats) ≡ all_positive (counts (drop l.repeat-index l.repeats));
}
