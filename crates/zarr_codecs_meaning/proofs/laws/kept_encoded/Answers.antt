use Rattle.zarr_codecs_meaning.proofs.Kept.{kept_encoded}
use Rattle.zarr_codecs_meaning.proofs.laws.kept_encoded.Goals as goal

pub returns : goal.returns
returns c = kept_encoded
