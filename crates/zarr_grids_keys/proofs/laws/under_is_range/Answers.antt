use Rattle.zarr_grids_keys.proofs.RangeLemmas.{is_under-range}
use Rattle.zarr_grids_keys.proofs.laws.under_is_range.Goals as goal

pub returns : goal.returns
returns c = is_under-range
