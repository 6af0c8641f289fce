use denote.Exit.{no}
use denote.Param.Send.{IsSync, arg_sync, param_sync, sendable}
use denote.RattleType.{RattleType}
use Rattle.std.proofs.Crossing.{crosses}
use Rattle.zarr_workers_tests.specs.contracts.waiting_codec.WaitingCodec as waiting
use Rattle.zarr_sharding_chains.proofs.Crossing.{plain_sync}
use Rattle.zarr_sharding_codec.proofs.codec.ShardingCodec.TheSendSync as shard
use Rattle.zarr_sharding_codec.specs.contracts.codec.ShardingCodec as sharding
use Rattle.zarr_workers_tests.proofs.shards.outcome.Goals as goal

shard_sync : (I X : RattleType) → IsSync I → IsSync X → IsSync (sharding.the_row I X)
shard_sync I X i x = search (shard.the_sync, crosses, sendable) depth 60 fits 20000

-- shards may be lent to other threads where the codec that waits may
pub coded-requires-sync-C : goal.coded-requires-sync-C
coded-requires-sync-C g c κs within =
    let codec : IsSync waiting.the_row = search (crosses, sendable) depth 20 in
    let chain = plain_sync _ codec in
    param_sync _ _ (arg_sync _ no _ (shard_sync _ _ chain chain))
