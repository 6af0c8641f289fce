use Rattle.std.proofs.Common.{◌≡◌, take, map}
use Rattle.zarr_grids_configurations.specs.Views.{rectangular_view}
use Rattle.zarr_grids_configurations.proofs.rectangular.try_clone_rectangular.Given as goal

-- the copies so far
abbrev pub invariant-loop-edges : goal.invariant-loop-edges
invariant-loop-edges l = map rectangular_view l.copy.items ≡ map rectangular_view (take l.edges-index l.given)
