use Rattle.std.proofs.Common.{length}
use Rattle.zarr_sharding_codec.proofs.subchunks.+subchunk_number.Given as goal

abbrev pub decreases-subchunk_number : goal.decreases-subchunk_number
decreases-subchunk_number l = length l.shape.now
