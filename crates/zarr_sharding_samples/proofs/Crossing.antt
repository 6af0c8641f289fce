-- The codecs of these tests may be lent to other threads.
use denote.Param.Send.{IsSync, sendable}
use denote.RattleType.{RattleType}
use Rattle.std.proofs.Crossing.{crosses}
use Rattle.zarr_codecs_reverse.specs.contracts.reverse_codec.ReverseCodec as reverse
use Rattle.zarr_sharding_codec.proofs.codec.ShardingCodec.TheSendSync as shard
use Rattle.zarr_sharding_codec.specs.contracts.codec.ShardingCodec as sharding

pub reverse_sync : IsSync reverse.the_row
reverse_sync = search (sendable)

-- shards, given the codecs of their subchunks and of their index
pub shard_sync : (I X : RattleType) → IsSync I → IsSync X → IsSync (sharding.the_row I X)
shard_sync I X i x = search (shard.the_sync, crosses, sendable) depth 60 fits 20000
