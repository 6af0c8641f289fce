use Rattle.zarr_grids_keys.proofs.KeyLemmas.{document_key-injective}
use Rattle.zarr_grids_keys.proofs.laws.document_keys_differ.Goals as goal

pub returns : goal.returns
returns c = document_key-injective
