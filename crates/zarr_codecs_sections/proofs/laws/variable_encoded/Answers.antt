use Rattle.zarr_codecs_sections.proofs.Joined.{variable_is_encoded}
use Rattle.zarr_codecs_sections.proofs.laws.variable_encoded.Goals as goal

pub returns : goal.returns
returns c = variable_is_encoded
