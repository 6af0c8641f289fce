use Rattle.std.proofs.Common.{◌∙◌}
use Rattle.zarr_grids_dimensions.proofs.SameGrids.{pointwise_grid}
use Rattle.zarr_grids_dimensions.proofs.equality.is_same_grid.Goals as goal

pub returns : goal.returns
returns c = c.eq.ensures ∙ pointwise_grid c.args.grid.now c.args.other.now
