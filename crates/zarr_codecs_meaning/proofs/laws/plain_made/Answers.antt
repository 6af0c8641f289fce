use Rattle.zarr_codecs_meaning.proofs.Making as lemma
use Rattle.zarr_codecs_meaning.proofs.laws.plain_made.Goals as goal

pub returns : goal.returns
returns c = lemma.plain_made
