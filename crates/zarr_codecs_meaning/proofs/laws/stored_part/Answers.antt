use Rattle.zarr_codecs_meaning.proofs.Chunks.{stored_part}
use Rattle.zarr_codecs_meaning.proofs.laws.stored_part.Goals as goal

pub returns : goal.returns
returns c = stored_part
