use Rattle.zarr_codecs_meaning.proofs.Kept.{kept_twice}
use Rattle.zarr_codecs_meaning.proofs.laws.kept_twice.Goals as goal

pub returns : goal.returns
returns c = kept_twice
