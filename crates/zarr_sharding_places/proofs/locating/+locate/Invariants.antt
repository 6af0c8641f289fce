use Rattle.std.proofs.Common.{length}
use Rattle.zarr_sharding_places.proofs.locating.+locate.Given as goal

abbrev pub decreases-locate : goal.decreases-locate
decreases-locate l = length l.axes.now
