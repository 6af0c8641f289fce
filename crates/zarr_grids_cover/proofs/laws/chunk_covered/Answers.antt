use Rattle.zarr_grids_cover.proofs.ChunkLaws.{IsInGrid-covered}
use Rattle.zarr_grids_cover.proofs.laws.chunk_covered.Goals as goal

pub returns : goal.returns
returns c = λ grid chunk box b. IsInGrid-covered grid chunk box b
