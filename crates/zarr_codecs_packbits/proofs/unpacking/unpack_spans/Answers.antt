use Rattle.std.proofs.Common.{rules, ◌≡◌, ◌∙◌, ◌+◌, ◌++◌, ◌∷◌, [], ◌<◌, suc, length, take, ap, sym, arith}
use Rattle.std.proofs.Math.Seq.{take-suc}
use Rattle.std.proofs.lemmas.Grind.{flat_map-append}
use Rattle.zarr_codecs_traits.specs.Sources.{bytes_at}
use Rattle.zarr_codecs_packbits.specs.Parts.{unpacked_bytes}
use Rattle.zarr_codecs_packbits.specs.Spans.{ends_within, span_numbers, span_range, spans_numbers}
use Rattle.zarr_codecs_packbits.specs.declared.spans.Span.{Span}
use Rattle.zarr_codecs_packbits.proofs.SpanNumbers.{numbers_more}
use Rattle.zarr_codecs_packbits.proofs.Unpacked.{next_part, span_within}
use Rattle.zarr_codecs_packbits.proofs.unpacking.unpack_spans.Goals as goal

pub returns-then-rest-length : goal.returns-then-rest-length
returns-then-rest-length c = λ value within given.
    let asked = c.args.asked.now in
    let i = c.loop-index.index in
    let none : Span = record { start = 0; count = 0 } in
    let below : i < length asked.spans.items = search (rules, c.loop-index-test.true) in
    let n = next_part c.args.packed.bits value asked.spans.items asked.ranges.items i c.loop-index.rest.now c.index.result.now c.index.result.now none within c.requires below c.index.ensures (c.loop-index.invariant value within given).0 in
    let short = c.if-rest-length.true in
    omega (arith, n.within, short)

pub returns-then-not-branch : goal.returns-then-not-branch
returns-then-not-branch c = λ value within given.
    let bits = c.args.packed.bits in
    let asked = c.args.asked.now in
    let spans = asked.spans.items in
    let i = c.loop-index.index in
    let span = c.index-in-loop-index.result.now in
    let below : i < length spans = search (rules, c.loop-index-test.true) in
    let n = next_part bits value spans asked.ranges.items i c.loop-index.rest.now c.index.result.now c.index.result.now span within c.requires below c.index.ensures (c.loop-index.invariant value within given).0 in
    let part = c.split_at.ensures.front ∙ (n.part ∙ ap (λ s. bytes_at value (span_range bits s)) (sym c.index-in-loop-index.ensures)) in
    let inside = ap (ends_within bits value) c.index-in-loop-index.ensures ∙ span_within value bits spans i span within below in
    let done = (c.in_ok-push_span.ensures value inside part).0 in
    let other = c.if-not-branch.true in
    cc

pub loop-index-preserved : goal.loop-index-preserved
loop-index-preserved c = λ value within given.
    let packed = c.args.packed in
    let bits = packed.bits in
    let asked = c.args.asked.now in
    let spans = asked.spans.items in
    let i = c.loop-index.index in
    let span = c.index-in-loop-index.result.now in
    let below : i < length spans = search (rules, c.loop-index-test.true) in
    let so_far = c.loop-index.invariant value within given in
    let n = next_part bits value spans asked.ranges.items i c.loop-index.rest.now c.index.result.now c.index.result.now span within c.requires below c.index.ensures so_far.0 in
    let part = c.split_at.ensures.front ∙ (n.part ∙ ap (λ s. bytes_at value (span_range bits s)) (sym c.index-in-loop-index.ensures)) in
    let inside = ap (ends_within bits value) c.index-in-loop-index.ensures ∙ span_within value bits spans i span within below in
    let made = (c.in_ok-push_span.ensures value inside part).1 in
    let one : i + 1 ≡ suc i = omega arith in
    let before = take i spans in
    let more : take (i + 1) spans ≡ before ++ span ∷ [] = ap (λ k. take k spans) one ∙ (take-suc spans i span below ∙ ap (λ s. before ++ s ∷ []) (sym c.index-in-loop-index.ensures)) in
    let joined : unpacked_bytes packed value (spans_numbers (take (i + 1) spans)) ≡ unpacked_bytes packed value (spans_numbers before) ++ unpacked_bytes packed value (span_numbers span) =
    ap (λ rs. unpacked_bytes packed value (spans_numbers rs)) more ∙ (ap (unpacked_bytes packed value) (numbers_more before span) ∙ flat_map-append _ (spans_numbers before) (span_numbers span)) in
    (c.split_at.ensures.back ∙ n.others, made ∙ (ap (λ bs. bs ++ unpacked_bytes packed value (span_numbers span)) so_far.1 ∙ sym joined))
