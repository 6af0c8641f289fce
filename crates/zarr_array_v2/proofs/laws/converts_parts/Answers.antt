use Rattle.zarr_array_v2.proofs.Apart as lemma
use Rattle.zarr_array_v2.proofs.laws.converts_parts.Goals as goal

pub returns : goal.returns
returns c = lemma.converts_parts
