use Rattle.std.proofs.Common.{◌≡◌, take, map}
use Rattle.zarr_grids_configurations.specs.Views.{rectilinear_view}
use Rattle.zarr_grids_configurations.proofs.rectilinear.try_clone_rectilinear.Given as goal

-- the copies so far
abbrev pub invariant-loop-lengths : goal.invariant-loop-lengths
invariant-loop-lengths l = map rectilinear_view l.copy.items ≡ map rectilinear_view (take l.lengths-index l.given)
