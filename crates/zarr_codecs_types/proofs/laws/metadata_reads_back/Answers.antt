use Rattle.zarr_codecs_types.proofs.ReadsBack as lemma
use Rattle.zarr_codecs_types.proofs.laws.metadata_reads_back.Goals as goal

pub returns : goal.returns
returns c = lemma.metadata_reads_back
