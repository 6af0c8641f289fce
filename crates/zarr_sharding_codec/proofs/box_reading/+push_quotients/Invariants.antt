use Rattle.std.proofs.Common.{length}
use Rattle.zarr_sharding_codec.proofs.box_reading.+push_quotients.Given as goal

abbrev pub decreases-push_quotients : goal.decreases-push_quotients
decreases-push_quotients l = length l.start.now
