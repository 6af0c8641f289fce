use Rattle.zarr_codecs_types.proofs.Levels as lemma
use Rattle.zarr_codecs_types.proofs.laws.optional_types_nest.Goals as goal

pub returns : goal.returns
returns c = lemma.point_type_is
