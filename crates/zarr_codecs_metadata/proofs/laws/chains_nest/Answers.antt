use Rattle.zarr_codecs_metadata.proofs.Levels as lemma
use Rattle.zarr_codecs_metadata.proofs.laws.chains_nest.Goals as goal

pub returns : goal.returns
returns c = lemma.nested
