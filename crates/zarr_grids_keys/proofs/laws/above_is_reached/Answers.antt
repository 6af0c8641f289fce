use Rattle.zarr_grids_keys.proofs.ParentLemmas.{is_under-reached}
use Rattle.zarr_grids_keys.proofs.laws.above_is_reached.Goals as goal

pub returns : goal.returns
returns c = is_under-reached
