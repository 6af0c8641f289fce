use Rattle.std.proofs.Common.{length}
use Rattle.zarr_sharding_codec.proofs.subchunks.+push_lengths.Given as goal

abbrev pub decreases-push_lengths : goal.decreases-push_lengths
decreases-push_lengths l = length l.edges.now
