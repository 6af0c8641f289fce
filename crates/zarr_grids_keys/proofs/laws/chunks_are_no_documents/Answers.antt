use Rattle.zarr_grids_keys.proofs.HeadLemmas.{chunk_key-no_document}
use Rattle.zarr_grids_keys.proofs.laws.chunks_are_no_documents.Goals as goal

pub returns : goal.returns
returns c = chunk_key-no_document
