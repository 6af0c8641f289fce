use Rattle.std.proofs.Common.{◌≡◌, ◌∙◌, ◌∷◌, ◌++◌, map, ap, true, Some}
use Rattle.std.proofs.lemmas.Result.{IfOk-weaker}
use Rattle.zarr_grids_metadata.specs.Views.{point_of}
use Rattle.zarr_codecs_metadata.specs.Allowed.{is_allowed}
use Rattle.zarr_codecs_around.specs.ThenBytes.{bytes_of, codec_of}
use Rattle.zarr_codecs_around.specs.Views.{array_points, codecs_of}
use Rattle.zarr_codecs_chains.proofs.Allowed.{allowed_between}
use Rattle.zarr_codecs_chains.specs.Views.{meaning_of}
use Rattle.zarr_sharding_metadata.specs.Nesting.{sharded_chain_of}
use Rattle.zarr_sharding_codec.specs.Views.{shard_chain}
use Rattle.zarr_sharding_chains.specs.Metadata.{sharded_points, sharding_point}
use Rattle.zarr_sharding_chains.specs.Views.{sharded_meaning}
use Rattle.zarr_sharding_chains.proofs.Written.{all_points, between_read}
use Rattle.zarr_sharding_chains.proofs.sharded_metadata.ShardedChainChainOfMetadata.codec_metadatas.Goals as goal

pub returns-clause-written : goal.returns-clause-written
returns-clause-written g c =
    let b = g.B.BytesToBytesCodecTraits in
    let described = g.I.ChainOfMetadata.described in
    let self = c.args.self.now in
    let shard = c.in_ok-shard.ensures.written ∙ ap (sharding_point described b.described) c.array_to_bytes_codec.ensures in
    let arrays = c.in_ok-arrays.ensures.written ∙ ap array_points c.as_slice.ensures.value in
    IfOk-weaker c.with_others.result (λ codecs. map point_of codecs.items ≡ map point_of c.in_ok-arrays.arrays.items ++ (point_of c.in_ok-shard.shard ∷ map b.described c.bytes_to_bytes_codecs.result.now)) (λ codecs. map point_of codecs.items ≡ sharded_points described b.described self)
    (λ codecs is. is ∙ all_points arrays shard (ap (map b.described) c.bytes_to_bytes_codecs.ensures)) c.with_others.ensures

pub returns-clause-made_again : goal.returns-clause-made_again
returns-clause-made_again g c = λ allowed.
    let b = g.B.BytesToBytesCodecTraits in
    let inner = g.I.ChainOfMetadata.reads in
    let self = c.args.self.now in
    let chain = shard_chain g.I.ArrayToBytesCodecTraits.meaning (meaning_of b.meaning) in
    let inside : is_allowed (chain (codec_of self.others)) ≡ true = allowed_between b.meaning self.array_to_array.items (chain (codec_of self.others)) (bytes_of self.others) ∙ allowed in
    let said = c.in_ok-shard.ensures.made_again (ap (λ codec. is_allowed (chain codec)) c.array_to_bytes_codec.ensures ∙ inside) ∙ ap (λ codec. Some (chain codec)) c.array_to_bytes_codec.ensures in
    let arrays = c.in_ok-arrays.ensures.reads_back ∙ ap (λ codecs. map Some (codecs_of codecs)) c.as_slice.ensures.value in
    let read = between_read b.reads inner b.described b.meaning g.met.B.BytesToBytesCodecTraits.reads_back (map point_of c.in_ok-arrays.arrays.items) self.array_to_array.items (point_of c.in_ok-shard.shard) (chain (codec_of self.others)) (bytes_of self.others) arrays said in
    let others = ap (λ codecs. map point_of c.in_ok-arrays.arrays.items ++ (point_of c.in_ok-shard.shard ∷ map b.described codecs)) c.bytes_to_bytes_codecs.ensures in
    IfOk-weaker c.with_others.result (λ codecs. map point_of codecs.items ≡ map point_of c.in_ok-arrays.arrays.items ++ (point_of c.in_ok-shard.shard ∷ map b.described c.bytes_to_bytes_codecs.result.now)) (λ codecs. sharded_chain_of b.reads inner (map point_of codecs.items) ≡ Some (sharded_meaning g.I.ArrayToBytesCodecTraits.meaning b.meaning self))
    (λ codecs is. ap (sharded_chain_of b.reads inner) (is ∙ others) ∙ read) c.with_others.ensures
