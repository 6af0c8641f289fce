use Rattle.zarr_grids_chunk_grids.proofs.Made.{grid-of_configuration}
use Rattle.zarr_grids_chunk_grids.proofs.laws.grid_of_configuration.Goals as goal

pub returns : goal.returns
returns c = grid-of_configuration
