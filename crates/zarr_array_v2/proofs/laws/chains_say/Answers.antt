use Rattle.zarr_array_v2.proofs.Read as lemma
use Rattle.zarr_array_v2.proofs.laws.chains_say.Goals as goal

pub returns : goal.returns
returns c = lemma.chains_say
