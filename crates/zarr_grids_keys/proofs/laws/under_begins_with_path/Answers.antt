use Rattle.zarr_grids_keys.proofs.RelatedLemmas.{is_under-Decides}
use Rattle.zarr_grids_keys.proofs.laws.under_begins_with_path.Goals as goal

pub returns : goal.returns
returns c = is_under-Decides
