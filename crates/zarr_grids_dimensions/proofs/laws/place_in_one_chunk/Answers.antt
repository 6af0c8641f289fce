use Rattle.zarr_grids_dimensions.proofs.OneChunk.{place_in_one_chunk}
use Rattle.zarr_grids_dimensions.proofs.laws.place_in_one_chunk.Goals as goal

pub returns : goal.returns
returns c = place_in_one_chunk
