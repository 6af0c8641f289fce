use Rattle.zarr_codecs_traits.proofs.PartValues.{patched_decode}
use Rattle.zarr_codecs_traits.proofs.laws.patched_decode.Goals as goal

pub returns : goal.returns
returns c = patched_decode
