use Rattle.zarr_grids_dimensions.specs.Lookups.{chunk_inbounds}
use Rattle.zarr_grids_dimensions.proofs.AllWalk.{all-length}
use Rattle.zarr_grids_dimensions.proofs.lookups.chunk_indices_inbounds.Goals as goal

pub returns-then-chunk-grid : goal.returns-then-chunk-grid
returns-then-chunk-grid c = all-length chunk_inbounds _ _ c.if-chunk-grid.true
