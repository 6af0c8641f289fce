use Rattle.zarr_codecs_meaning.proofs.Kept.{kept_lossless}
use Rattle.zarr_codecs_meaning.proofs.laws.kept_lossless.Goals as goal

pub returns : goal.returns
returns c = kept_lossless
