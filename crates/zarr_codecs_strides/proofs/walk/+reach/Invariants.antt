use Rattle.std.proofs.Common.{length}
use Rattle.zarr_codecs_strides.proofs.walk.+reach.Given as goal

abbrev pub decreases-reach : goal.decreases-reach
decreases-reach l = length l.walk.sizes.now
