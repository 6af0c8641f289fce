use Rattle.zarr_codecs_sections.proofs.Joined.{vlen_is_refused}
use Rattle.zarr_codecs_sections.proofs.laws.vlen_refused.Goals as goal

pub returns : goal.returns
returns c = vlen_is_refused
