use Rattle.zarr_grids_cover.proofs.ChunkLaws.{IsInGrid-intersecting}
use Rattle.zarr_grids_cover.proofs.laws.chunk_intersecting_alone.Goals as goal

pub returns : goal.returns
returns c = λ grid chunk box t b. IsInGrid-intersecting grid chunk box t b
