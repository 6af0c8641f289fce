use Rattle.zarr_array_v2.proofs.Apart as lemma
use Rattle.zarr_array_v2.proofs.laws.converts_attributes.Goals as goal

pub returns : goal.returns
returns c = lemma.converts_attributes
