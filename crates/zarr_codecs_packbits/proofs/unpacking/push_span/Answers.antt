use Rattle.std.proofs.Common.{◌≡◌, ◌∙◌, ◌≤◌, ◌+◌, ◌++◌, ◌*◌, ◌/◌, ◌%◌, ℕ, List, length, take, drop, ap, refl, sym, arith, true}
use Rattle.std.specs.Prelude.{nat_le, unwrap_or}
use Rattle.std.proofs.Math.Nat.{mul_comm}
use Rattle.std.proofs.lemmas.Bool.{leb-true}
use Rattle.zarr_codecs_meaning.specs.Decoding.{without_padding}
use Rattle.zarr_codecs_meaning.specs.Fits.{bits_in, packed_size}
use Rattle.zarr_codecs_types.specs.Views.{components_of}
use Rattle.zarr_codecs_traits.specs.Sources.{bytes_at}
use Rattle.zarr_codecs_packbits.specs.Packing.{bytes_of}
use Rattle.zarr_codecs_packbits.specs.Parts.{unpacked_bytes}
use Rattle.zarr_codecs_packbits.specs.Spans.{ends_within, span_numbers, span_range}
use Rattle.zarr_codecs_packbits.specs.Turning.{bits_of}
use Rattle.zarr_codecs_packbits.specs.Views.{padding_of}
use Rattle.zarr_codecs_packbits.specs.declared.part.PackedBits.{PackedBits}
use Rattle.zarr_codecs_packbits.specs.declared.spans.Span.{Span}
use Rattle.zarr_codecs_packbits.specs.declared.turning.Turn.{Turn}
use Rattle.zarr_codecs_packbits.proofs.Unpacked.{LiesIn, aligned_bits, lies_in_value, unpacked_span}
use Rattle.zarr_codecs_packbits.proofs.unpacking.push_span.Goals as goal

-- how many bits are kept of an element
abbrev kept : PackedBits → ℕ
kept packed = bits_in (unwrap_or packed.codec.first_bit 0) packed.codec.last_bit (components_of packed.components.now)

lies : (packed : PackedBits) (value part : List ℕ) (span : Span) → ends_within packed.bits value span ≡ true → part ≡ bytes_at value (span_range packed.bits span) → LiesIn (kept packed) value part span
lies packed value part span within is =
    let end : (span.start + span.count) * kept packed ≤ 8 * length value = leb-true ((span.start + span.count) * kept packed) (8 * length value) (ap (λ b. nat_le ((span.start + span.count) * b) (8 * length value)) (sym packed.counted) ∙ within) in
    lies_in_value (kept packed) value part span (is ∙ ap (λ b. bytes_at value (span_range b span)) packed.counted) end

-- the elements of bytes whose first bits are those of the span
elements : (packed : PackedBits) (value part given : List ℕ) (span : Span) → ends_within packed.bits value span ≡ true → part ≡ bytes_at value (span_range packed.bits span)
    → take (span.count * kept packed) (bits_of given) ≡ take (span.count * kept packed) (drop (span.start * kept packed % 8) (bits_of part))
    → bytes_of (unwrap_or packed.codec.first_bit 0) packed.codec.last_bit (components_of packed.components.now) span.count (bits_of (without_padding (padding_of packed.codec.padding) given)) ≡ unpacked_bytes packed value (span_numbers span)
elements packed value part given span within is same =
    let first = unwrap_or packed.codec.first_bit 0 in
    let last = packed.codec.last_bit in
    let parts = components_of packed.components.now in
    unpacked_span first last parts value part given _ span (lies packed value part span within is) same (ap (λ p. bytes_of first last parts span.count (bits_of (without_padding p given))) packed.untold)

pub returns-then-part-size : goal.returns-then-part-size
returns-then-part-size c = λ value within is.
    let packed = c.args.packed in
    let span = c.args.span in
    let part = c.args.part.now in
    let w = kept packed in
    let none : span.start * w % 8 ≡ 0 = ap (λ b. span.start * b % 8) (sym packed.counted) ∙ (sym c.first_bit-skip.ensures ∙ c.if-skip-eq0.true) in
    let same : take (span.count * w) (bits_of part) ≡ take (span.count * w) (drop (span.start * w % 8) (bits_of part)) = ap (λ k. take (span.count * w) (drop k (bits_of part))) (sym none) in
    (refl, c.in_ok-push_unpacked.ensures ∙ ap (λ bs. c.args.made.now.bytes.items ++ bs) (elements packed value part part span within is same))

pub push_unpacked-requires-2-clause-whole : goal.push_unpacked-requires-2-clause-whole
push_unpacked-requires-2-clause-whole c =
    let packed = c.args.packed in
    let span = c.args.span in
    let first = unwrap_or packed.codec.first_bit 0 in
    let last = packed.codec.last_bit in
    let parts = components_of packed.components.now in
    let count = c.in-Some.count in
    let enough = c.if-skip-count.false in
    let many = c.in-Some.ensures.1 ∙ ap (λ (t : Turn). bits_in t.first t.last parts * span.count) c.turn-turn.ensures in
    let made = aligned_bits c.first_bit-skip.result count ((count + 7) / 8) c.args.part.now c.put_shifted.new.made.items (omega (arith, enough)) refl c.in_ok-put_shifted.ensures in
    ap length c.deref.ensures.value ∙ (made.long ∙ (ap (λ n. (n + 7) / 8) many ∙ sym (ap (λ p. packed_size p first last parts span.count) packed.untold ∙ omega arith)))

pub returns : goal.returns
returns c = λ value within is.
    let packed = c.args.packed in
    let span = c.args.span in
    let part = c.args.part.now in
    let parts = components_of packed.components.now in
    let w = kept packed in
    let count = c.in-Some.count in
    let bytes = c.put_shifted.new.made.items in
    let enough = c.if-skip-count.false in
    let skip : c.first_bit-skip.result ≡ span.start * w % 8 = c.first_bit-skip.ensures ∙ ap (λ b. span.start * b % 8) packed.counted in
    let many : count ≡ span.count * w = c.in-Some.ensures.1 ∙ (ap (λ (t : Turn). bits_in t.first t.last parts * span.count) c.turn-turn.ensures ∙ mul_comm w span.count) in
    let made = aligned_bits c.first_bit-skip.result count ((count + 7) / 8) part bytes (omega (arith, enough)) refl c.in_ok-put_shifted.ensures in
    let same : take (span.count * w) (bits_of bytes) ≡ take (span.count * w) (drop (span.start * w % 8) (bits_of part)) =
    ap (λ n. take n (bits_of bytes)) (sym many) ∙ (made.are ∙ (ap (λ n. take n (drop c.first_bit-skip.result (bits_of part))) many ∙ ap (λ k. take (span.count * w) (drop k (bits_of part))) skip)) in
    let given : take (span.count * w) (bits_of c.deref.result.now) ≡ take (span.count * w) (drop (span.start * w % 8) (bits_of part)) = ap (λ bs. take (span.count * w) (bits_of bs)) c.deref.ensures.value ∙ same in
    (refl, c.in_ok-push_unpacked-2.ensures ∙ ap (λ bs. c.args.made.now.bytes.items ++ bs) (elements packed value part c.deref.result.now span within is given))
