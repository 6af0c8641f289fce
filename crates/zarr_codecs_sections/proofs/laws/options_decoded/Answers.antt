use Rattle.zarr_codecs_sections.proofs.Joined.{options_are_decoded}
use Rattle.zarr_codecs_sections.proofs.laws.options_decoded.Goals as goal

pub returns : goal.returns
returns c = options_are_decoded
