use Rattle.zarr_codecs_meaning.proofs.Chunks.{stored_decoded}
use Rattle.zarr_codecs_meaning.proofs.laws.stored_decoded.Goals as goal

pub returns : goal.returns
returns c = stored_decoded
