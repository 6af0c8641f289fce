use Rattle.zarr_codecs_meaning.proofs.Tight.{encoded_tight}
use Rattle.zarr_codecs_meaning.proofs.laws.encoded_tight.Goals as goal

pub returns : goal.returns
returns c = encoded_tight
