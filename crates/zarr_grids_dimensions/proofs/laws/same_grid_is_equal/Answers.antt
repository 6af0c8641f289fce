use Rattle.zarr_grids_dimensions.specs.SameEquivalence.{same_grid_decides}
use Rattle.zarr_grids_dimensions.proofs.laws.same_grid_is_equal.Goals as goal

pub returns : goal.returns
returns c = same_grid_decides
