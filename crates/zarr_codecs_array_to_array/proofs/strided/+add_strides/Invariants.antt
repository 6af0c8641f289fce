use Rattle.std.proofs.Common.{length}
use Rattle.zarr_codecs_array_to_array.proofs.strided.+add_strides.Given as goal

abbrev pub decreases-add_strides : goal.decreases-add_strides
decreases-add_strides l = length l.picks.now
