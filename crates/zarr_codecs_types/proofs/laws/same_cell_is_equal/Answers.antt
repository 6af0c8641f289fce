use Rattle.zarr_codecs_types.specs.SameEquivalence as lemma
use Rattle.zarr_codecs_types.proofs.laws.same_cell_is_equal.Goals as goal

pub returns : goal.returns
returns c = lemma.same_cell_decides
