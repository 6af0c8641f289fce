use Rattle.zarr_grids_chunks.proofs.Partition.{intersecting-any}
use Rattle.zarr_grids_cover.proofs.laws.chunks_intersecting_cover.Goals as goal

pub returns : goal.returns
returns c = λ grid region p covered t. intersecting-any grid region p covered t
