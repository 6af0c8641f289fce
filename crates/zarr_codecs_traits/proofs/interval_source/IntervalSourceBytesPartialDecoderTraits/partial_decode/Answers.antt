use Rattle.std.proofs.Common.{◌≡◌, ◌∙◌, ap, subst, map, false, Option, Vec, Global}
use Rattle.std.specs.Prelude.{IfOk, IfSome}
use Rattle.std.specs.List.{list_any}
use Rattle.zarr_codecs_traits.specs.Sources.{any_past_end, interval_of, is_outside, moved_range, part_lists, parts_of}
use Rattle.zarr_codecs_traits.specs.declared.byte_range.ByteRange.{ByteRange}
use Rattle.zarr_codecs_traits.proofs.Intervals.{inner_within, interval_parts, on_ok, refused_alike, within_interval}
use Rattle.zarr_codecs_traits.proofs.interval_source.IntervalSourceBytesPartialDecoderTraits.partial_decode.Goals as goal

pub returns-in-Some-clause-parts : goal.returns-in-Some-clause-parts
returns-in-Some-clause-parts g c = λ honest.
    let self = c.args.self.now in
    let contents = g.D.BytesPartialDecoderTraits.contents self.source.now in
    let known = subst (λ (found : Option (Vec ByteRange Global)). IfSome found (λ moved. (list_any (is_outside self.range) c.args.ranges.now ≡ false) × (moved.items ≡ map (moved_range self.range) c.args.ranges.now))) c.in-Some.is c.in_ok-moved.ensures.some in
    let moved = c.as_slice.ensures.value ∙ known.1 in
    subst (λ parts. IfOk c.partial_decode.result (λ found. part_lists found ≡ parts)) (ap (parts_of contents) moved ∙ interval_parts contents self.range c.args.ranges.now known.0) (c.partial_decode.ensures.parts honest)

pub returns-in-Some-clause-in_range : goal.returns-in-Some-clause-in_range
returns-in-Some-clause-in_range g c = λ honest.
    let self = c.args.self.now in
    let known = subst (λ (found : Option (Vec ByteRange Global)). IfSome found (λ moved. (list_any (is_outside self.range) c.args.ranges.now ≡ false) × (moved.items ≡ map (moved_range self.range) c.args.ranges.now))) c.in-Some.is c.in_ok-moved.ensures.some in
    on_ok c.partial_decode.result (within_interval (g.D.BytesPartialDecoderTraits.contents self.source.now) self.range c.args.ranges.now (self.inside honest) known.0)

pub returns-in-Some-clause-cause : goal.returns-in-Some-clause-cause
returns-in-Some-clause-cause g c = λ honest.
    let self = c.args.self.now in
    let contents = g.D.BytesPartialDecoderTraits.contents self.source.now in
    let known = subst (λ (found : Option (Vec ByteRange Global)). IfSome found (λ moved. (list_any (is_outside self.range) c.args.ranges.now ≡ false) × (moved.items ≡ map (moved_range self.range) c.args.ranges.now))) c.in-Some.is c.in_ok-moved.ensures.some in
    let within = ap (any_past_end contents) (c.as_slice.ensures.value ∙ known.1) ∙ inner_within contents self.range c.args.ranges.now (self.inside honest) known.0 in
    refused_alike contents (interval_of contents self.range) c.as_slice.result.now c.args.ranges.now c.partial_decode.result within (c.partial_decode.ensures.cause honest)
