use Rattle.std.proofs.Common.{length}
use Rattle.zarr_sharding_codec.proofs.box_reading.+push_extents.Given as goal

abbrev pub decreases-push_extents : goal.decreases-push_extents
decreases-push_extents l = length l.edges.now
