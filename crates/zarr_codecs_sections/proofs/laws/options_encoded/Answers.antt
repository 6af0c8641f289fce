use Rattle.zarr_codecs_sections.proofs.Joined.{options_are_encoded}
use Rattle.zarr_codecs_sections.proofs.laws.options_encoded.Goals as goal

pub returns : goal.returns
returns c = options_are_encoded
