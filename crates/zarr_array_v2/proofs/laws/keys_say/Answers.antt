use Rattle.zarr_array_v2.proofs.Read as lemma
use Rattle.zarr_array_v2.proofs.laws.keys_say.Goals as goal

pub returns : goal.returns
returns c = lemma.keys_say
