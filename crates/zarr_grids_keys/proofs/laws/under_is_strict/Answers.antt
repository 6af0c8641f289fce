use Rattle.zarr_grids_keys.proofs.RelatedLemmas.{is_under-irrefl}
use Rattle.zarr_grids_keys.proofs.laws.under_is_strict.Goals as goal

pub returns : goal.returns
returns c = is_under-irrefl
