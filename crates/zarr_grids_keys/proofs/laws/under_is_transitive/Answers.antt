use Rattle.zarr_grids_keys.proofs.RelatedLemmas.{is_under-trans}
use Rattle.zarr_grids_keys.proofs.laws.under_is_transitive.Goals as goal

pub returns : goal.returns
returns c = is_under-trans
