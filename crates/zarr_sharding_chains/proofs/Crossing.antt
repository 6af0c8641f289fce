-- The chains that arrays have may be lent to other threads where the caller's codecs may.
use denote.Enum.Declared.{shape}
use denote.Param.Send.{IsSync, sendable, recorded_sync, enum_sync}
use denote.RattleType.{RattleType}
use Rattle.std.proofs.Crossing.{crosses}
use Rattle.zarr_codecs_chains.proofs.array_to_bytes.ArrayToBytesCodec.TheLaws.TheKnot.{crosses as codecs}
use Rattle.zarr_codecs_array_to_array.proofs.codec.ArrayToArrayCodec.TheSendSync as array_codec
use Rattle.zarr_codecs_around.proofs.then_bytes.ThenBytes.TheSendSync as then_bytes
use Rattle.zarr_sharding_codec.proofs.codec.ShardingCodec.TheSendSync as shard
use Rattle.zarr_codecs_chains.specs.contracts.chain.CodecChain as plain
use Rattle.zarr_sharding_chains.specs.contracts.sharded_chain.ShardedChain as sharded
use Rattle.zarr_sharding_chains.specs.contracts.array_chain.ArrayChain as array

-- chains without shards, as values and as fields
pub plain_sync : (B : RattleType) → IsSync B → IsSync (plain.the_row B)
plain_sync B s = search (array_codec.the_sync, crosses, codecs, sendable) depth 60 fits 20000

plain_field : (B : RattleType) → IsSync B → IsSync (plain.the_field B).row
plain_field B s = search (array_codec.the_sync, crosses, codecs, sendable) depth 60 fits 20000

-- chains with a shard, given the codecs of its subchunks
pub sharded_sync : (B I : RattleType) → IsSync B → IsSync I → IsSync (sharded.the_row B I)
sharded_sync B I s i = let p : IsSync (plain.the_row B) = plain_sync B s in search (array_codec.the_sync, then_bytes.the_field_sync, shard.the_sync, crosses, sendable) depth 60 fits 20000

sharded_field : (B I : RattleType) → IsSync B → IsSync I → IsSync (sharded.the_field B I).row
sharded_field B I s i = let p : IsSync (plain.the_row B) = plain_sync B s in search (array_codec.the_sync, then_bytes.the_field_sync, shard.the_sync, crosses, sendable) depth 60 fits 20000

-- the chain of an array
pub chain_sync : (B : RattleType) → IsSync B → IsSync (array.the_row B)
chain_sync B s =
    let p : IsSync (plain.the_row B) = plain_sync B s in
    let o : IsSync (sharded.the_row B (plain.the_row B)) = sharded_sync B (plain.the_row B) s p in
    recorded_sync (array.the_field B).row _ _ (array.the_type B).to_one (enum_sync (shape (array.the_type B)) (
      (plain_field B s, tt),
      ((sharded_field B (plain.the_row B) s p, tt), ((sharded_field B (sharded.the_row B (plain.the_row B)) s o, tt), tt)),
    ))
