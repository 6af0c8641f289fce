use Rattle.std.proofs.Common.{map, refl, sym}
use Rattle.zarr_codecs_around.specs.Views.{codecs_of}
use Rattle.zarr_codecs_chains.specs.Views.{meaning_of}
use Rattle.zarr_sharding_codec.specs.Views.{shard_chain}
use Rattle.zarr_sharding_chains.specs.Views.{arrays_of, bytes_of, shard_of}
use Rattle.zarr_sharding_chains.proofs.Telling.{shards_between}
use Rattle.zarr_sharding_chains.proofs.sharded_values.ShardedChainInnerCodec.makes_no_shard.Goals as goal

pub returns : goal.returns
returns g c =
    let bytes = g.B.BytesToBytesCodecTraits.meaning in
    let chain = c.args.self.now in
    let shard = shard_chain g.I.ArrayToBytesCodecTraits.meaning (meaning_of bytes) (shard_of chain) in
    sym (shards_between (codecs_of (arrays_of chain)) shard (map bytes (bytes_of chain)) refl)
