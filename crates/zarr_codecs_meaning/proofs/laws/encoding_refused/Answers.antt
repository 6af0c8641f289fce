use Rattle.zarr_codecs_meaning.proofs.Refusals.{encoding_refused}
use Rattle.zarr_codecs_meaning.proofs.laws.encoding_refused.Goals as goal

pub returns : goal.returns
returns c = encoding_refused
