use Rattle.std.proofs.Common.{length}
use Rattle.zarr_sharding_codec.proofs.whole_subchunk.+is_subchunk.Given as goal

abbrev pub decreases-is_subchunk : goal.decreases-is_subchunk
decreases-is_subchunk l = length l.edges.now
