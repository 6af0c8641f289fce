use Rattle.zarr_grids_dimensions.specs.SameEquivalence.{same_dimension_decides}
use Rattle.zarr_grids_dimensions.proofs.laws.same_dimension_is_equal.Goals as goal

pub returns : goal.returns
returns c = same_dimension_decides
