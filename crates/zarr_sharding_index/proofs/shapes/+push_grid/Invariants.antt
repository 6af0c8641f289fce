use Rattle.std.proofs.Common.{length}
use Rattle.zarr_sharding_index.proofs.shapes.+push_grid.Given as goal

abbrev pub decreases-push_grid : goal.decreases-push_grid
decreases-push_grid l = length l.shape.now
