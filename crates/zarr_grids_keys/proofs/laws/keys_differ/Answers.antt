use Rattle.zarr_grids_keys.proofs.KeyLemmas.{chunk_key-injective}
use Rattle.zarr_grids_keys.proofs.laws.keys_differ.Goals as goal

pub returns : goal.returns
returns c = chunk_key-injective
