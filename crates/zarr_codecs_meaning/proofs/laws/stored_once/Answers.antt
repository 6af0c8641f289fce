use Rattle.zarr_codecs_meaning.proofs.Chunks.{stored_once}
use Rattle.zarr_codecs_meaning.proofs.laws.stored_once.Goals as goal

pub returns : goal.returns
returns c = stored_once
