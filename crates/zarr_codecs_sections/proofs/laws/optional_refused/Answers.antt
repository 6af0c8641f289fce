use Rattle.zarr_codecs_sections.proofs.Joined.{optional_is_refused}
use Rattle.zarr_codecs_sections.proofs.laws.optional_refused.Goals as goal

pub returns : goal.returns
returns c = optional_is_refused
