use Rattle.std.proofs.Common.{◌≡◌, ◌∙◌, List, [], ap, map, refl, sym, subst, Bool, true, false, not, ◌&&◌}
use Rattle.std.specs.Prelude.{OnOk}
use Rattle.zarr_codecs_meaning.specs.Fits.{is_plain}
use Rattle.zarr_codecs_meaning.specs.Partial.{encodes_in_part}
use Rattle.zarr_codecs_meaning.specs.Types.{Cell}
use Rattle.zarr_codecs_arrays.specs.Views.{elements_of, payload_of}
use Rattle.zarr_codecs_array_to_array.specs.declared.codec.ArrayToArrayCodec.{ArrayToArrayCodec}
use Rattle.zarr_codecs_traits.specs.Indexers.{asked_of}
use Rattle.zarr_codecs_traits.specs.Arrays.{coded, coded_part, update_of, update_part}
use Rattle.zarr_codecs_traits.specs.PartWriting.{IsEncodedInto, NotEncodedInto}
use Rattle.zarr_codecs_traits.specs.ShardWrites.{GivesWriting, LeavesParts}
use Rattle.zarr_codecs_traits.proofs.Damage.{whole_not_put}
use Rattle.zarr_codecs_traits.proofs.WrittenWhole.{whole_given, whole_parts}
use Rattle.zarr_codecs_around.specs.Views.{codecs_of, with_array_codecs}
use Rattle.zarr_codecs_chains.specs.Views.{meaning_of}
use Rattle.zarr_sharding_codec.specs.Views.{shard_chain}
use Rattle.zarr_sharding_chains.specs.Reshapes.{any_reshape}
use Rattle.zarr_sharding_chains.specs.Views.{arrays_of, bytes_of, others_meaning, shard_of, sharded_function, sharded_meaning}
use Rattle.zarr_sharding_chains.proofs.Telling.{parts_before, shards_between}
use Rattle.zarr_sharding_chains.proofs.sharded_chain.ShardedChainArrayToBytesCodecTraits.partial_encode_in_order.Goals as goal

pub returns-clause-ok : goal.returns-clause-ok
returns-clause-ok g c = λ honest.
    let E = g.E.BytesPartialDecoderTraits in
    let rest = others_meaning g.I.ArrayToBytesCodecTraits.meaning g.B.BytesToBytesCodecTraits.meaning c.args.self.now in
    let exact = sharded_function g.I.ArrayToBytesCodecTraits.is_function c.args.self.now in
    subst
    (λ (codecs : List ArrayToArrayCodec). OnOk c.encode_part_after.result
    ((cells : List Cell) × IsEncodedInto (coded (with_array_codecs (codecs_of codecs) rest) (elements_of c.args.part.elements.now) c.args.part.shape.now) exact (update_of (asked_of c.args.part.indexer) (payload_of c.args.bytes) (E.contents c.args.source.now)) cells (E.contents c.encode_part_after.new.source)))
    c.as_slice-array_to_array.ensures.value (c.encode_part_after.ensures.ok honest)

pub returns-clause-parts : goal.returns-clause-parts
returns-clause-parts g c = λ honest.
    let E = g.E.BytesPartialDecoderTraits in
    let bytes = g.B.BytesToBytesCodecTraits.meaning in
    let inner = g.I.ArrayToBytesCodecTraits.meaning in
    let own = c.args.self.now in
    let rest = others_meaning inner bytes own in
    let codecs = codecs_of c.as_slice-array_to_array.result.now in
    let shards : is_plain rest ≡ false = shards_between [] (shard_chain inner (meaning_of bytes) (shard_of own)) (map bytes (bytes_of own)) refl in
    let told : not (any_reshape codecs) ≡ true = ap not (sym c.has_reshape.ensures ∙ c.if-has_reshape.false) in
    let kept : encodes_in_part (with_array_codecs codecs rest) ≡ encodes_in_part rest = sym (parts_before codecs rest shards) ∙ ap (λ (b : Bool). b && encodes_in_part rest) told in
    subst
    (λ (codecs : List ArrayToArrayCodec). OnOk c.encode_part_after.result (LeavesParts (coded_part (with_array_codecs (codecs_of codecs) rest) c.args.part) (update_part c.args.part c.args.bytes (E.contents c.args.source.now)) (E.contents c.encode_part_after.new.source)))
    c.as_slice-array_to_array.ensures.value (c.encode_part_after.ensures.writes honest kept).parts

pub returns-clause-cause : goal.returns-clause-cause
returns-clause-cause g c = λ honest.
    let E = g.E.BytesPartialDecoderTraits in
    let bytes = g.B.BytesToBytesCodecTraits.meaning in
    let inner = g.I.ArrayToBytesCodecTraits.meaning in
    let own = c.args.self.now in
    let rest = others_meaning inner bytes own in
    let codecs = codecs_of c.as_slice-array_to_array.result.now in
    let shards : is_plain rest ≡ false = shards_between [] (shard_chain inner (meaning_of bytes) (shard_of own)) (map bytes (bytes_of own)) refl in
    let told : not (any_reshape codecs) ≡ true = ap not (sym c.has_reshape.ensures ∙ c.if-has_reshape.false) in
    let kept : encodes_in_part (with_array_codecs codecs rest) ≡ encodes_in_part rest = sym (parts_before codecs rest shards) ∙ ap (λ (b : Bool). b && encodes_in_part rest) told in
    subst
    (λ (codecs : List ArrayToArrayCodec). NotEncodedInto (coded_part (with_array_codecs (codecs_of codecs) rest) c.args.part) (update_part c.args.part c.args.bytes (E.contents c.args.source.now)) c.encode_part_after.result)
    c.as_slice-array_to_array.ensures.value (c.encode_part_after.ensures.writes honest kept).cause

pub returns-clause-given : goal.returns-clause-given
returns-clause-given g c = λ honest.
    let E = g.E.BytesPartialDecoderTraits in
    let bytes = g.B.BytesToBytesCodecTraits.meaning in
    let inner = g.I.ArrayToBytesCodecTraits.meaning in
    let own = c.args.self.now in
    let rest = others_meaning inner bytes own in
    let codecs = codecs_of c.as_slice-array_to_array.result.now in
    let shards : is_plain rest ≡ false = shards_between [] (shard_chain inner (meaning_of bytes) (shard_of own)) (map bytes (bytes_of own)) refl in
    let told : not (any_reshape codecs) ≡ true = ap not (sym c.has_reshape.ensures ∙ c.if-has_reshape.false) in
    let kept : encodes_in_part (with_array_codecs codecs rest) ≡ encodes_in_part rest = sym (parts_before codecs rest shards) ∙ ap (λ (b : Bool). b && encodes_in_part rest) told in
    subst
    (λ (codecs : List ArrayToArrayCodec). GivesWriting (coded_part (with_array_codecs (codecs_of codecs) rest) c.args.part) (update_part c.args.part c.args.bytes (E.contents c.args.source.now)) (g.E.BytesPartialEncoderTraits.writes_ranges c.args.source.now) (E.given_bytes c.args.source.now) (E.given_bytes c.encode_part_after.new.source))
    c.as_slice-array_to_array.ensures.value ((c.encode_part_after.ensures.writes honest kept).given)

pub returns-then-has_reshape-clause-parts : goal.returns-then-has_reshape-clause-parts
returns-then-has_reshape-clause-parts g c = λ honest.
    let bytes = g.B.BytesToBytesCodecTraits.meaning in
    let inner = g.I.ArrayToBytesCodecTraits.meaning in
    let own = c.args.self.now in
    let chain = sharded_meaning inner bytes own in
    let rest = others_meaning inner bytes own in
    let stored = g.E.BytesPartialDecoderTraits.contents c.args.source.now in
    let shards : is_plain rest ≡ false = shards_between [] (shard_chain inner (meaning_of bytes) (shard_of own)) (map bytes (bytes_of own)) refl in
    let told : not (any_reshape (codecs_of (arrays_of own))) ≡ false = ap not (ap (λ (codecs : List ArrayToArrayCodec). any_reshape (codecs_of codecs)) (sym c.as_slice-array_to_array.ensures.value) ∙ (sym c.has_reshape.ensures ∙ c.if-has_reshape.true)) in
    let whole : encodes_in_part chain ≡ false = sym (parts_before (codecs_of (arrays_of own)) rest shards) ∙ ap (λ (b : Bool). b && encodes_in_part rest) told in
    whole_parts (coded_part chain c.args.part) (update_part c.args.part c.args.bytes stored) (g.E.BytesPartialDecoderTraits.contents c.encode_whole.new.source) c.encode_whole.result whole (c.encode_whole.ensures.gapless honest)

pub returns-then-has_reshape-clause-cause : goal.returns-then-has_reshape-clause-cause
returns-then-has_reshape-clause-cause g c = λ honest.
    let bytes = g.B.BytesToBytesCodecTraits.meaning in
    let inner = g.I.ArrayToBytesCodecTraits.meaning in
    let own = c.args.self.now in
    let chain = sharded_meaning inner bytes own in
    let rest = others_meaning inner bytes own in
    let stored = g.E.BytesPartialDecoderTraits.contents c.args.source.now in
    let shards : is_plain rest ≡ false = shards_between [] (shard_chain inner (meaning_of bytes) (shard_of own)) (map bytes (bytes_of own)) refl in
    let told : not (any_reshape (codecs_of (arrays_of own))) ≡ false = ap not (ap (λ (codecs : List ArrayToArrayCodec). any_reshape (codecs_of codecs)) (sym c.as_slice-array_to_array.ensures.value) ∙ (sym c.has_reshape.ensures ∙ c.if-has_reshape.true)) in
    let whole : encodes_in_part chain ≡ false = sym (parts_before (codecs_of (arrays_of own)) rest shards) ∙ ap (λ (b : Bool). b && encodes_in_part rest) told in
    whole_not_put {A = Unit {0}} (coded_part chain c.args.part) (update_part c.args.part c.args.bytes stored) c.encode_whole.result whole (c.encode_whole.ensures.cause honest)

pub returns-then-has_reshape-clause-given : goal.returns-then-has_reshape-clause-given
returns-then-has_reshape-clause-given g c = λ honest.
    let bytes = g.B.BytesToBytesCodecTraits.meaning in
    let inner = g.I.ArrayToBytesCodecTraits.meaning in
    let own = c.args.self.now in
    let chain = sharded_meaning inner bytes own in
    let rest = others_meaning inner bytes own in
    let stored = g.E.BytesPartialDecoderTraits.contents c.args.source.now in
    let shards : is_plain rest ≡ false = shards_between [] (shard_chain inner (meaning_of bytes) (shard_of own)) (map bytes (bytes_of own)) refl in
    let told : not (any_reshape (codecs_of (arrays_of own))) ≡ false = ap not (ap (λ (codecs : List ArrayToArrayCodec). any_reshape (codecs_of codecs)) (sym c.as_slice-array_to_array.ensures.value) ∙ (sym c.has_reshape.ensures ∙ c.if-has_reshape.true)) in
    let whole : encodes_in_part chain ≡ false = sym (parts_before (codecs_of (arrays_of own)) rest shards) ∙ ap (λ (b : Bool). b && encodes_in_part rest) told in
    whole_given (coded_part chain c.args.part) (update_part c.args.part c.args.bytes stored) (g.E.BytesPartialEncoderTraits.writes_ranges c.args.source.now) (g.E.BytesPartialDecoderTraits.given_bytes c.args.source.now) (g.E.BytesPartialDecoderTraits.given_bytes c.encode_whole.new.source) whole (c.encode_whole.ensures.given honest)
