use Rattle.zarr_grids_dimensions.specs.Lookups.{place_inbounds}
use Rattle.zarr_grids_dimensions.proofs.AllWalk.{all-length}
use Rattle.zarr_grids_dimensions.proofs.lookups.array_indices_inbounds.Goals as goal

pub returns-then-place-grid : goal.returns-then-place-grid
returns-then-place-grid c = all-length place_inbounds _ _ c.if-place-grid.true
