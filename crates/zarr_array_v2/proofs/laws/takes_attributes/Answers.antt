use Rattle.zarr_array_v2.proofs.Apart as lemma
use Rattle.zarr_array_v2.proofs.laws.takes_attributes.Goals as goal

pub returns : goal.returns
returns c = lemma.takes
