use Rattle.zarr_codecs_meaning.proofs.Meaning.{stands_decoded}
use Rattle.zarr_codecs_meaning.proofs.laws.stands_decoded.Goals as goal

pub returns : goal.returns
returns c = stands_decoded
