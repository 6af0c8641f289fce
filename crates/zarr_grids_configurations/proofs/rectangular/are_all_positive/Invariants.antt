use Rattle.std.proofs.Common.{◌≡◌, drop}
use Rattle.zarr_grids_dimensions.specs.Lookups.{all_positive}
use Rattle.zarr_grids_configurations.proofs.rectangular.are_all_positive.Given as goal

-- what is left answers as the whole
abbrev pub invariant-loop-edge : goal.invariant-loop-edge
invariant-loop-edge l = all_positive l.edges ≡ all_positive (drop l.edge-index l.edges)
