use Rattle.std.proofs.Common.{length}
use Rattle.zarr_codecs_bytes.proofs.swapping.+push_swapped.Given as goal

abbrev pub decreases-push_swapped : goal.decreases-push_swapped
decreases-push_swapped l = length l.parts.now
