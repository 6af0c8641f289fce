use Rattle.std.proofs.Common.{length}
use Rattle.zarr_sharding_codec.proofs.box_reading.+push_remainders.Given as goal

abbrev pub decreases-push_remainders : goal.decreases-push_remainders
decreases-push_remainders l = length l.start.now
