use Rattle.zarr_grids_keys.proofs.HeadLemmas.{chunk_key-no_own_document}
use Rattle.zarr_grids_keys.proofs.laws.no_chunk_is_own_document.Goals as goal

pub returns : goal.returns
returns c = chunk_key-no_own_document
