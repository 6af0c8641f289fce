use Rattle.std.proofs.Common.{◌≡◌, drop, map}
use Rattle.zarr_grids_configurations.specs.Grids.{are_positive}
use Rattle.zarr_grids_configurations.specs.Views.{rectilinear_view}
use Rattle.zarr_grids_configurations.proofs.reading.are_rectilinear_positive.Given as goal

-- what is left answers as the whole
abbrev pub invariant-loop-lengths : goal.invariant-loop-lengths
invariant-loop-lengths l = are_positive (map rectilinear_view l.given) ≡ are_positive (map rectilinear_view (drop l.lengths-index l.given))
