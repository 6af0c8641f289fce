use Rattle.std.proofs.Common.{length}
use Rattle.zarr_codecs_packbits.proofs.turning.+push_element.Given as goal

abbrev pub decreases-push_element : goal.decreases-push_element
decreases-push_element l = length l.parts.now
