use Rattle.zarr_grids_keys.proofs.KeyLemmas.{chunk_key-default}
use Rattle.zarr_grids_keys.proofs.laws.default_keys_differ.Goals as goal

pub returns : goal.returns
returns c = chunk_key-default
