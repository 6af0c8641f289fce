use Rattle.std.proofs.Common.{◌≡◌, ◌∙◌, ◌+◌, ◌*◌, ◌/◌, ◌<◌, ℕ, List, ap, sym, subst, arith, length, flat_map, true, Option, Some, Vec, Global}
use Rattle.std.specs.Prelude.{nat_lt, unwrap_or}
use Rattle.std.specs.List.{list_all}
use Rattle.zarr_grids_boxes.specs.Boxes.{product}
use Rattle.zarr_codecs_meaning.specs.Chains.Chain.{packbits}
use Rattle.zarr_codecs_meaning.specs.Chains.{Padding}
use Rattle.zarr_codecs_meaning.specs.Chains.Padding.{no_padding_byte}
use Rattle.zarr_codecs_meaning.specs.Fits.{bits_in, packed_size}
use Rattle.zarr_codecs_meaning.specs.Types.{Component, bytes_in, components}
use Rattle.zarr_codecs_meaning.specs.Payloads.{fixed}
use Rattle.zarr_codecs_meaning.proofs.Lists.{some_same}
use Rattle.zarr_codecs_types.specs.Views.{components_of}
use Rattle.zarr_codecs_arrays.specs.Views.{elements_of}
use Rattle.zarr_codecs_traits.specs.Indexers.{asked_of}
use Rattle.zarr_codecs_traits.specs.Arrays.{coded}
use Rattle.zarr_codecs_traits.specs.Outcomes.{IsPart}
use Rattle.zarr_codecs_traits.specs.Sources.{bytes_in_ranges, concat_of, value_bytes}
use Rattle.zarr_codecs_traits.specs.declared.byte_range.ByteRange.{ByteRange}
use Rattle.zarr_codecs_regions.proofs.AskedPlaces.{asked_places}
use Rattle.zarr_codecs_packbits.specs.Packing.{element_in}
use Rattle.zarr_codecs_packbits.specs.Parts.{AreAsked, IsUnpacked, bits_of_packed, numbers_of_packed, size_of_packed, unpacked_bytes}
use Rattle.zarr_codecs_packbits.specs.Spans.{ends_within, spans_numbers, total_length}
use Rattle.zarr_codecs_packbits.specs.Turning.{bits_of}
use Rattle.zarr_codecs_packbits.specs.Views.{packbits_chain, padding_of}
use Rattle.zarr_codecs_packbits.specs.declared.codec.PackBitsCodec.{PackBitsCodec}
use Rattle.zarr_codecs_packbits.specs.declared.part.PackedPart.{PackedPart}
use Rattle.zarr_codecs_packbits.specs.declared.part.PackedBits.{PackedBits}
use Rattle.zarr_codecs_packbits.specs.declared.spans.SpanRanges.{SpanRanges}
use Rattle.zarr_codecs_packbits.proofs.PackedParts.{packed_bits_few, packed_part, spans_end, spans_given, spans_unread}
use Rattle.zarr_codecs_packbits.proofs.reading.read_spans.Goals as goal

-- the bits of the spans end within a value of as many bytes as the array is packed to
spans_inside : (packed : PackedPart) (found : SpanRanges) (value : List ℕ) → AreAsked packed found → padding_of packed.codec.padding ≡ no_padding_byte → length value ≡ size_of_packed packed → list_all (ends_within (bits_of_packed packed) value) found.spans.items ≡ true
spans_inside packed found value asked untold long =
    let shape = packed.part.shape.now in
    let count = product shape in
    let w = bits_of_packed packed in
    let sized : length value ≡ 0 + (w * count + 7) / 8 = long ∙ ap (λ p. packed_size p (unwrap_or packed.codec.first_bit 0) packed.codec.last_bit (components_of packed.components.now) count) untold in
    let below : list_all (λ n. nat_lt n count) (spans_numbers found.spans.items) ≡ true = ap (list_all (λ n. nat_lt n count)) asked.spans.are ∙ asked_places shape (asked_of packed.part.indexer) packed.inside in
    spans_end count w (8 * length value) found.spans.items (packed_bits_few w count (length value) sized) asked.spans.some below

is_untold : (packed : PackedPart) (bits : PackedBits) → bits.codec ≡ packed.codec → padding_of packed.codec.padding ≡ no_padding_byte
is_untold packed bits same = ap (λ (codec : PackBitsCodec). padding_of codec.padding) (sym same) ∙ bits.untold

is_counted : (packed : PackedPart) (bits : PackedBits) → bits.codec ≡ packed.codec → bits.components.now ≡ packed.components.now → bits.bits ≡ bits_of_packed packed
is_counted packed bits codec components =
    bits.counted
    ∙ (ap (λ (k : PackBitsCodec). bits_in (unwrap_or k.first_bit 0) k.last_bit (components_of bits.components.now)) codec ∙ ap (λ cs. bits_in (unwrap_or packed.codec.first_bit 0) packed.codec.last_bit (components_of cs)) components)

-- what was unpacked of the bytes that a source gave
found_bytes : (packed : PackedPart) (bits : PackedBits) (asked : SpanRanges) (value : List ℕ) (contents : Option (List ℕ)) (ranges : List ByteRange) (given : Option (Vec ℕ Global)) (all : Vec ℕ Global) (read : List ℕ) (made : Option (Vec ℕ Global))
    → AreAsked packed asked → bits.codec ≡ packed.codec → bits.components.now ≡ packed.components.now → length value ≡ size_of_packed packed → contents ≡ Some value → ranges ≡ asked.ranges.items → given ≡ Some all → value_bytes given ≡ concat_of contents ranges → read ≡ all.items
    → ((v : List ℕ) → list_all (ends_within bits.bits v) asked.spans.items ≡ true → read ≡ bytes_in_ranges v asked.ranges.items → IsUnpacked bits v (spans_numbers asked.spans.items) made) → IsUnpacked bits value (numbers_of_packed packed) made
found_bytes packed bits asked value contents ranges given all read made are codec components long is ranges_are given_is told read_is law =
    let inside = spans_inside packed asked value are (is_untold packed bits codec) long in
    let within : list_all (ends_within bits.bits value) asked.spans.items ≡ true = ap (λ b. list_all (ends_within b value) asked.spans.items) (is_counted packed bits codec components) ∙ inside in
    let same : all.items ≡ bytes_in_ranges value ranges = some_same (sym (ap value_bytes given_is) ∙ (told ∙ ap (λ (o : Option (List ℕ)). concat_of o ranges) is)) in
    subst (λ ns. IsUnpacked bits value ns made) are.spans.are (law value within (read_is ∙ (same ∙ ap (bytes_in_ranges value) ranges_are)))

pub returns-in_err-bytes-in-Ok-Some-clause-given : goal.returns-in_err-bytes-in-Ok-Some-clause-given
returns-in_err-bytes-in-Ok-Some-clause-given g c = λ honest value is.
    let D = g.D.BytesPartialDecoderTraits in
    let most = spans_given (D.given_bytes c.args.source.now) (D.given_bytes c.partial_decode_concat.new.self) (D.contents c.args.source.now) value c.deref.result.now is (c.partial_decode_concat.ensures.most honest) in
    let same = ap total_length c.deref.ensures.value in
    omega (arith, most, same)

pub returns-in-Some-clause-given : goal.returns-in-Some-clause-given
returns-in-Some-clause-given g c = λ honest value is.
    let D = g.D.BytesPartialDecoderTraits in
    let most = spans_given (D.given_bytes c.args.source.now) (D.given_bytes c.partial_decode_concat.new.self) (D.contents c.args.source.now) value c.deref.result.now is (c.partial_decode_concat.ensures.most honest) in
    let same = ap total_length c.deref.ensures.value in
    omega (arith, most, same)

pub returns-in-Ok-Some-clause-given : goal.returns-in-Ok-Some-clause-given
returns-in-Ok-Some-clause-given g c = λ honest value is.
    let D = g.D.BytesPartialDecoderTraits in
    let most = spans_given (D.given_bytes c.args.source.now) (D.given_bytes c.partial_decode_concat.new.self) (D.contents c.args.source.now) value c.deref.result.now is (c.partial_decode_concat.ensures.most honest) in
    let same = ap total_length c.deref.ensures.value in
    omega (arith, most, same)

pub returns-clause-given : goal.returns-clause-given
returns-clause-given g c = λ honest value is.
    let D = g.D.BytesPartialDecoderTraits in
    let most = spans_given (D.given_bytes c.args.source.now) (D.given_bytes c.partial_decode_concat.new.self) (D.contents c.args.source.now) value c.deref.result.now is (c.partial_decode_concat.ensures.most honest) in
    let same = ap total_length c.deref.ensures.value in
    omega (arith, most, same)

pub returns-in-Some-clause-part : goal.returns-in-Some-clause-part
returns-in-Some-clause-part g c = λ honest value is long.
    let packed = c.args.packed in
    let bits = c.args.bits in
    let elements = elements_of packed.part.elements.now in
    let shape = packed.part.shape.now in
    let asked = asked_of packed.part.indexer in
    let first = unwrap_or packed.codec.first_bit 0 in
    let last = packed.codec.last_bit in
    let parts = components elements.type in
    let untold = is_untold packed bits c.requires.codec in
    let found = found_bytes packed bits c.args.asked.now value (g.D.BytesPartialDecoderTraits.contents c.args.source.now) c.deref.result.now c.in-Ok-Some.field-0 c.in-Ok-Some.found c.deref-in-Ok-Some.result.now c.in_ok-bytes-in-Ok-Some.field-0
    c.requires.asked c.requires.codec c.requires.components long is c.deref.ensures.value c.in-Ok-Some.field-0-is (c.in-Ok-Some.ensures.bytes honest) c.deref-in-Ok-Some.ensures.value c.in_ok-bytes-in-Ok-Some.ensures in
    let made : c.in-Some.bytes.items ≡ unpacked_bytes bits value (numbers_of_packed packed) = subst (IsUnpacked bits value (numbers_of_packed packed)) c.in-Some.is found in
    let same : unpacked_bytes bits value (numbers_of_packed packed) ≡ flat_map (element_in first last parts (bits_of value)) (numbers_of_packed packed) =
    ap (λ (k : PackBitsCodec). flat_map (element_in (unwrap_or k.first_bit 0) k.last_bit (components_of bits.components.now) (bits_of value)) (numbers_of_packed packed)) c.requires.codec
    ∙ (ap (λ cs. flat_map (element_in first last (components_of cs) (bits_of value)) (numbers_of_packed packed)) c.requires.components ∙ ap (λ (cs : List Component). flat_map (element_in first last cs (bits_of value)) (numbers_of_packed packed)) packed.suits.are) in
    let some : 0 < bytes_in parts = subst (λ (cs : List Component). 0 < bytes_in cs) packed.suits.are c.requires.positive in
    let sized : length value ≡ packed_size no_padding_byte first last parts (product shape) =
    long ∙ (ap (λ p. packed_size p first last (components_of packed.components.now) (product shape)) untold ∙ ap (λ (cs : List Component). packed_size no_padding_byte first last cs (product shape)) packed.suits.are) in
    subst (λ (p : Padding). IsPart (coded (packbits p first last) elements shape) (Some value) asked (fixed c.in-Some.bytes.items)) (sym untold)
    (packed_part first last elements shape value c.in-Some.bytes.items asked packed.suits.fit some packed.inside sized (made ∙ same))

pub returns-in-Ok-Some-clause-part : goal.returns-in-Ok-Some-clause-part
returns-in-Ok-Some-clause-part g c = λ honest value is long.
    let packed = c.args.packed in
    let bits = c.args.bits in
    let found = found_bytes packed bits c.args.asked.now value (g.D.BytesPartialDecoderTraits.contents c.args.source.now) c.deref.result.now c.in-Ok-Some.field-0 c.in-Ok-Some.found c.deref-in-Ok-Some.result.now c.in_ok-bytes-in-Ok-Some.field-0
    c.requires.asked c.requires.codec c.requires.components long is c.deref.ensures.value c.in-Ok-Some.field-0-is (c.in-Ok-Some.ensures.bytes honest) c.deref-in-Ok-Some.ensures.value c.in_ok-bytes-in-Ok-Some.ensures in
    absurd (subst (IsUnpacked bits value (numbers_of_packed packed)) c.in-None.is found)

pub returns-clause-part : goal.returns-clause-part
returns-clause-part g c = λ honest value is long.
    let packed = c.args.packed in
    let found = c.args.asked.now in
    let w = bits_of_packed packed in
    spans_unread (packbits_chain packed.codec) (elements_of packed.part.elements.now) packed.part.shape.now (Some value) (asked_of packed.part.indexer) (g.D.BytesPartialDecoderTraits.contents c.args.source.now) value w found.spans.items c.deref.result.now c.in-Err.error is
    (spans_inside packed found value c.requires.asked (is_untold packed c.args.bits c.requires.codec) long) (c.deref.ensures.value ∙ c.requires.asked.ranges) (c.in-Err.ensures.cause honest)
