use Rattle.zarr_grids_dimensions.proofs.OneChunk.{chunks_apart}
use Rattle.zarr_grids_dimensions.proofs.laws.chunks_apart.Goals as goal

pub returns : goal.returns
returns c = chunks_apart
