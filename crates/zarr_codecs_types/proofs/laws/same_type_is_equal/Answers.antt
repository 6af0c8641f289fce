use Rattle.zarr_codecs_types.specs.SameEquivalence as lemma
use Rattle.zarr_codecs_types.proofs.laws.same_type_is_equal.Goals as goal

pub returns : goal.returns
returns c = lemma.same_type_decides
