use Rattle.zarr_array_meaning.proofs.ReadsBack.{read_metadata-written_document}
use Rattle.zarr_array_meaning.proofs.laws.metadata_reads_back.Goals as goal

pub returns : goal.returns
returns c = read_metadata-written_document
