use Rattle.zarr_array_meaning.proofs.ReadsBack.{read_document-written_document}
use Rattle.zarr_array_meaning.proofs.laws.document_reads_back.Goals as goal

pub returns : goal.returns
returns c = read_document-written_document
