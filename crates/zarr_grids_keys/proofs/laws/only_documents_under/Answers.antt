use Rattle.zarr_grids_keys.proofs.DocumentsUnder.{chunk_key-document_under}
use Rattle.zarr_grids_keys.proofs.laws.only_documents_under.Goals as goal

pub returns : goal.returns
returns c = chunk_key-document_under
