use Rattle.zarr_array_v2.proofs.Read as lemma
use Rattle.zarr_array_v2.proofs.laws.codecs_say.Goals as goal

pub returns : goal.returns
returns c = lemma.codecs_say
