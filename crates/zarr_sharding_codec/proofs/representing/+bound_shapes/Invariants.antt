use Rattle.std.proofs.Common.{length}
use Rattle.zarr_sharding_codec.proofs.representing.+bound_shapes.Given as goal

abbrev pub decreases-bound_shapes : goal.decreases-bound_shapes
decreases-bound_shapes g l = length l.sizes.now
