use Rattle.zarr_grids_cover.proofs.ChunkLaws.{chunks_apart}
use Rattle.zarr_grids_cover.proofs.laws.chunks_apart.Goals as goal

pub returns : goal.returns
returns c = λ grid chunk other p a b. chunks_apart grid chunk other p a b
