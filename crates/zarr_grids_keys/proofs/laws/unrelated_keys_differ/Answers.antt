use Rattle.zarr_grids_keys.proofs.RelatedLemmas.{key_under-unrelated}
use Rattle.zarr_grids_keys.proofs.laws.unrelated_keys_differ.Goals as goal

pub returns : goal.returns
returns c = key_under-unrelated
