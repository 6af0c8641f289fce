use Rattle.zarr_grids_chunk_grids.proofs.ByEdges.{by_edges}
use Rattle.zarr_grids_chunk_grids.proofs.laws.rectilinear_by_edges.Goals as goal

pub returns : goal.returns
returns c = by_edges
