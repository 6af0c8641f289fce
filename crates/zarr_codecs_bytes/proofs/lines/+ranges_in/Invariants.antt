use Rattle.std.proofs.Common.{length}
use Rattle.zarr_codecs_bytes.proofs.lines.+ranges_in.Given as goal

abbrev pub decreases-ranges_in : goal.decreases-ranges_in
decreases-ranges_in l = length l.region.now
