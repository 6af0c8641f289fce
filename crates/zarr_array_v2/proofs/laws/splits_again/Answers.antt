use Rattle.zarr_array_v2.proofs.Apart as lemma
use Rattle.zarr_array_v2.proofs.laws.splits_again.Goals as goal

pub returns : goal.returns
returns c = lemma.splits
