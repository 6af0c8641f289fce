use Rattle.std.proofs.Common.{length}
use Rattle.zarr_sharding_codec.proofs.fitting.+suits_shapes.Given as goal

abbrev pub decreases-suits_shapes : goal.decreases-suits_shapes
decreases-suits_shapes g l = length l.sizes.now
