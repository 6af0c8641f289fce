use Rattle.zarr_codecs_meaning.proofs.Chunks.{chunk_stored}
use Rattle.zarr_codecs_meaning.proofs.laws.chunk_stored.Goals as goal

pub returns : goal.returns
returns c = chunk_stored
