use Rattle.std.proofs.Common.{map, refl}
use Rattle.zarr_codecs_arrays.specs.Views.{elements_of, payload_of}
use Rattle.zarr_codecs_traits.specs.Indexers.{asked_of}
use Rattle.zarr_codecs_around.proofs.Telling.{none_asked}
use Rattle.zarr_codecs_around.specs.Views.{codecs_of}
use Rattle.zarr_codecs_chains.specs.Views.{meaning_of}
use Rattle.zarr_sharding_codec.specs.Views.{shard_chain}
use Rattle.zarr_sharding_chains.specs.Views.{arrays_of, bytes_of, shard_of, sharded_function, sharded_meaning}
use Rattle.zarr_sharding_chains.proofs.Telling.{no_ranges_between}
use Rattle.zarr_sharding_chains.proofs.sharded_chain.ShardedChainArrayToBytesCodecTraits.encode_patches.Goals as goal

pub returns : goal.returns
returns g c =
    let bytes = g.B.BytesToBytesCodecTraits.meaning in
    let chain = c.args.self.now in
    let shard = shard_chain g.I.ArrayToBytesCodecTraits.meaning (meaning_of bytes) (shard_of chain) in
    none_asked (sharded_meaning g.I.ArrayToBytesCodecTraits.meaning bytes chain) (sharded_function g.I.ArrayToBytesCodecTraits.is_function chain) (elements_of c.args.arg4.elements.now) c.args.arg4.shape.now (asked_of c.args.arg4.indexer) (payload_of c.args.arg3)
    (no_ranges_between (codecs_of (arrays_of chain)) shard (map bytes (bytes_of chain)) refl)
