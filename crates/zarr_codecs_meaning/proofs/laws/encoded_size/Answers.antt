use Rattle.zarr_codecs_meaning.proofs.Representations.{encoded_size}
use Rattle.zarr_codecs_meaning.proofs.laws.encoded_size.Goals as goal

pub returns : goal.returns
returns c = encoded_size
