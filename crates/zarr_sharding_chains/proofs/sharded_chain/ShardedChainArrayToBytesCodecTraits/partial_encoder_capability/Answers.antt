use Rattle.std.proofs.Common.{◌≡◌, ◌∙◌, List, [], ap, map, refl, sym, Bool, true, false, not, ◌&&◌}
use Rattle.zarr_codecs_meaning.specs.Fits.{is_plain}
use Rattle.zarr_codecs_meaning.specs.Partial.{encodes_in_part}
use Rattle.zarr_codecs_array_to_array.specs.declared.codec.ArrayToArrayCodec.{ArrayToArrayCodec}
use Rattle.zarr_codecs_around.specs.Views.{codecs_of}
use Rattle.zarr_codecs_chains.specs.Views.{meaning_of}
use Rattle.zarr_sharding_codec.specs.Views.{shard_chain}
use Rattle.zarr_sharding_chains.specs.Reshapes.{any_reshape}
use Rattle.zarr_sharding_chains.specs.Views.{arrays_of, bytes_of, others_meaning, shard_of}
use Rattle.zarr_sharding_chains.proofs.Telling.{parts_before, shards_between}
use Rattle.zarr_sharding_chains.proofs.sharded_chain.ShardedChainArrayToBytesCodecTraits.partial_encoder_capability.Goals as goal

pub returns-then-not-has_reshape : goal.returns-then-not-has_reshape
returns-then-not-has_reshape g c =
    let bytes = g.B.BytesToBytesCodecTraits.meaning in
    let chain = c.args.self.now in
    let rest = others_meaning g.I.ArrayToBytesCodecTraits.meaning bytes chain in
    let shards : is_plain rest ≡ false = shards_between [] (shard_chain g.I.ArrayToBytesCodecTraits.meaning (meaning_of bytes) (shard_of chain)) (map bytes (bytes_of chain)) refl in
    let told : not (any_reshape (codecs_of (arrays_of chain))) ≡ true = ap not (ap (λ (codecs : List ArrayToArrayCodec). any_reshape (codecs_of codecs)) (sym c.as_slice.ensures.value) ∙ (sym c.has_reshape.ensures ∙ c.if-not-has_reshape.true)) in
    c.partial_encoder_capability.ensures ∙ (sym (ap (λ (b : Bool). b && encodes_in_part rest) told) ∙ parts_before (codecs_of (arrays_of chain)) rest shards)

pub returns-else-not-has_reshape : goal.returns-else-not-has_reshape
returns-else-not-has_reshape g c =
    let bytes = g.B.BytesToBytesCodecTraits.meaning in
    let chain = c.args.self.now in
    let rest = others_meaning g.I.ArrayToBytesCodecTraits.meaning bytes chain in
    let shards : is_plain rest ≡ false = shards_between [] (shard_chain g.I.ArrayToBytesCodecTraits.meaning (meaning_of bytes) (shard_of chain)) (map bytes (bytes_of chain)) refl in
    let told : not (any_reshape (codecs_of (arrays_of chain))) ≡ false = ap not (ap (λ (codecs : List ArrayToArrayCodec). any_reshape (codecs_of codecs)) (sym c.as_slice.ensures.value) ∙ (sym c.has_reshape.ensures ∙ c.if-not-has_reshape.false)) in
    ap not c.if-not-has_reshape.false ∙ (sym (ap (λ (b : Bool). b && encodes_in_part rest) told) ∙ parts_before (codecs_of (arrays_of chain)) rest shards)
