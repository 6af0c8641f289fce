use Rattle.std.proofs.Common.{◌≡◌, ◌∙◌, ◌+◌, ◌*◌, ◌/◌, ◌≤◌, ◌^◌, ap, arith, true}
use Rattle.std.specs.Prelude.{nat_le, nat_lt, unwrap_or}
use Rattle.std.specs.List.{list_all}
use Rattle.zarr_grids_boxes.specs.Boxes.{product}
use Rattle.zarr_codecs_meaning.specs.Fits.{packed_size}
use Rattle.zarr_codecs_types.specs.Views.{components_of}
use Rattle.zarr_codecs_traits.specs.Indexers.{asked_of}
use Rattle.zarr_codecs_regions.proofs.AskedPlaces.{asked_places}
use Rattle.zarr_codecs_packbits.specs.Parts.{bits_of_packed}
use Rattle.zarr_codecs_packbits.specs.declared.spans.Span.{Span}
use Rattle.zarr_codecs_packbits.proofs.PackedParts.{packed_bits_few, spans_end}
use Rattle.zarr_codecs_packbits.proofs.reading.ranges_asked.Goals as goal

pub span_ranges-requires : goal.span_ranges-requires
span_ranges-requires c =
    let packed = c.args.packed in
    let count = product packed.part.shape.now in
    let bits = bits_of_packed packed in
    let spans = c.in_ok-spans.spans.items in
    let size : c.args.total ≡ 0 + (bits * count + 7) / 8 = c.requires.sized ∙ ap (λ p. packed_size p (unwrap_or packed.codec.first_bit 0) packed.codec.last_bit (components_of packed.components.now) count) c.requires.untold in
    let few = packed_bits_few bits count c.args.total size in
    let most : count * bits ≤ 2 ^ 66 = omega (arith, few, c.requires.small) in
    let below : list_all (λ n. nat_lt n count) _ ≡ true = ap (list_all (λ n. nat_lt n count)) c.in_ok-spans.ensures.are ∙ asked_places packed.part.shape.now (asked_of packed.part.indexer) packed.inside in
    let all = spans_end count bits (2 ^ 66) spans most c.in_ok-spans.ensures.some below in
    ap (list_all (λ (span : Span). nat_le ((span.start + span.count) * c.args.bits) (2 ^ 66))) c.deref.ensures.value ∙ (ap (λ b. list_all (λ (span : Span). nat_le ((span.start + span.count) * b) (2 ^ 66)) spans) c.requires.bits ∙ all)
