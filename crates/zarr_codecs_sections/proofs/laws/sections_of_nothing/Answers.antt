use Rattle.zarr_codecs_sections.proofs.Joined.{unless_none_is, read_unless_none_is}
use Rattle.zarr_codecs_sections.proofs.laws.sections_of_nothing.Goals as goal

pub returns : goal.returns
returns c = (unless_none_is, read_unless_none_is)
