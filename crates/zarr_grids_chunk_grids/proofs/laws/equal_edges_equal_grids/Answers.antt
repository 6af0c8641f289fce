use Rattle.zarr_grids_chunk_grids.proofs.Made.{equal-edges}
use Rattle.zarr_grids_chunk_grids.proofs.laws.equal_edges_equal_grids.Goals as goal

pub returns : goal.returns
returns c = equal-edges
