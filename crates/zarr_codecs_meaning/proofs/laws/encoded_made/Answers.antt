use Rattle.zarr_codecs_meaning.proofs.Making as lemma
use Rattle.zarr_codecs_meaning.proofs.laws.encoded_made.Goals as goal

pub returns : goal.returns
returns c = lemma.encoded_made
