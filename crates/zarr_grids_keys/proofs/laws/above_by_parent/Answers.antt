use Rattle.zarr_grids_keys.proofs.ParentLemmas.{is_under-parent}
use Rattle.zarr_grids_keys.proofs.laws.above_by_parent.Goals as goal

pub returns : goal.returns
returns c = is_under-parent
