use Rattle.std.proofs.Common.{◌≡◌, ◌∙◌, List, [], ap, length, map, subst, sym}
use Rattle.std.proofs.lemmas.Bool.{eqb-true}
use Rattle.std.proofs.lemmas.List.{nil_from_length}
use Rattle.zarr_codecs_meaning.specs.Chains.{Chain}
use Rattle.zarr_codecs_arrays.specs.Views.{elements_of}
use Rattle.zarr_codecs_array_to_array.specs.declared.codec.ArrayToArrayCodec.{ArrayToArrayCodec}
use Rattle.zarr_codecs_traits.specs.Compactions.{Compacts}
use Rattle.zarr_codecs_around.specs.Views.{codecs_of, with_array_codecs, with_codecs}
use Rattle.zarr_codecs_chains.specs.Views.{meaning_of}
use Rattle.zarr_sharding_codec.specs.Views.{shard_chain}
use Rattle.zarr_sharding_chains.specs.Views.{arrays_of, bytes_of, others_meaning, shard_of}
use Rattle.zarr_sharding_chains.proofs.sharded_chain.ShardedChainArrayToBytesCodecTraits.compact_in_order.Goals as goal

-- without bytes codecs the value is that of the shard
pub returns-then-is_empty : goal.returns-then-is_empty
returns-then-is_empty g c =
    let inner = g.I.ArrayToBytesCodecTraits.meaning in
    let bytes = g.B.BytesToBytesCodecTraits.meaning in
    let chain = c.args.self.now in
    let shard : Chain = shard_chain inner (meaning_of bytes) (shard_of chain) in
    let found = c.bytes_to_bytes_codecs.ensures in
    let none : bytes_of chain ≡ [] = sym found ∙ nil_from_length c.bytes_to_bytes_codecs.result.now (eqb-true (length c.bytes_to_bytes_codecs.result.now) 0 (sym c.is_empty.ensures ∙ c.if-is_empty.true)) in
    let alone : shard ≡ others_meaning inner bytes chain = sym (ap (λ codecs. with_codecs shard (map bytes codecs)) none) in
    let same : shard_chain inner (meaning_of bytes) c.array_to_bytes_codec-shard.result.now ≡ shard = ap (shard_chain inner (meaning_of bytes)) c.array_to_bytes_codec-shard.ensures in
    let told : Compacts (with_array_codecs (codecs_of c.as_slice-codecs.result.now) (shard_chain inner (meaning_of bytes) c.array_to_bytes_codec-shard.result.now)) (elements_of c.args.elements.now).type c.args.shape.now c.args.value.now c.compact_after.result = c.compact_after.ensures in
    subst (λ (rest : Chain). Compacts (with_array_codecs (codecs_of (arrays_of chain)) rest) (elements_of c.args.elements.now).type c.args.shape.now c.args.value.now c.compact_after.result) (same ∙ alone)
    (subst (λ (codecs : List ArrayToArrayCodec). Compacts (with_array_codecs (codecs_of codecs) (shard_chain inner (meaning_of bytes) c.array_to_bytes_codec-shard.result.now)) (elements_of c.args.elements.now).type c.args.shape.now c.args.value.now c.compact_after.result) c.as_slice-codecs.ensures.value told)

pub returns : goal.returns
returns g c =
    let rest = others_meaning g.I.ArrayToBytesCodecTraits.meaning g.B.BytesToBytesCodecTraits.meaning c.args.self.now in
    subst (λ (codecs : List ArrayToArrayCodec). Compacts (with_array_codecs (codecs_of codecs) rest) (elements_of c.args.elements.now).type c.args.shape.now c.args.value.now c.compact_after-2.result) c.as_slice-codecs.ensures.value c.compact_after-2.ensures
