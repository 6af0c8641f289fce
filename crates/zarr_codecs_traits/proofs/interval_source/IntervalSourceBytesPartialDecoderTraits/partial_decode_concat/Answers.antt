use Rattle.std.proofs.Common.{◌≡◌, ◌∙◌, ap, subst, map, false, Option, Vec, Global, ◌≤◌, ◌+◌}
use Rattle.std.specs.Prelude.{IfOk, IfSome}
use Rattle.std.specs.List.{list_any}
use Rattle.zarr_codecs_traits.specs.Sources.{any_past_end, concat_of, interval_of, is_outside, moved_range, value_bytes, value_length}
use Rattle.zarr_codecs_traits.specs.declared.byte_range.ByteRange.{ByteRange}
use Rattle.zarr_codecs_traits.proofs.Intervals.{inner_within, interval_concat, on_ok, refused_alike, within_interval}
use Rattle.zarr_codecs_traits.proofs.interval_source.IntervalSourceBytesPartialDecoderTraits.partial_decode_concat.Goals as goal

pub returns-in-Some-clause-bytes : goal.returns-in-Some-clause-bytes
returns-in-Some-clause-bytes g c = λ honest.
    let self = c.args.self.now in
    let contents = g.D.BytesPartialDecoderTraits.contents self.source.now in
    let known = subst (λ (found : Option (Vec ByteRange Global)). IfSome found (λ moved. (list_any (is_outside self.range) c.args.ranges.now ≡ false) × (moved.items ≡ map (moved_range self.range) c.args.ranges.now))) c.in-Some.is c.in_ok-moved.ensures.some in
    let moved = c.as_slice.ensures.value ∙ known.1 in
    subst (λ bytes. IfOk c.partial_decode_concat.result (λ found. value_bytes found ≡ bytes)) (ap (concat_of contents) moved ∙ interval_concat contents self.range c.args.ranges.now known.0) (c.partial_decode_concat.ensures.bytes honest)

pub returns-in-Some-clause-in_range : goal.returns-in-Some-clause-in_range
returns-in-Some-clause-in_range g c = λ honest.
    let self = c.args.self.now in
    let known = subst (λ (found : Option (Vec ByteRange Global)). IfSome found (λ moved. (list_any (is_outside self.range) c.args.ranges.now ≡ false) × (moved.items ≡ map (moved_range self.range) c.args.ranges.now))) c.in-Some.is c.in_ok-moved.ensures.some in
    on_ok c.partial_decode_concat.result (within_interval (g.D.BytesPartialDecoderTraits.contents self.source.now) self.range c.args.ranges.now (self.inside honest) known.0)

pub returns-in-Some-clause-cause : goal.returns-in-Some-clause-cause
returns-in-Some-clause-cause g c = λ honest.
    let self = c.args.self.now in
    let contents = g.D.BytesPartialDecoderTraits.contents self.source.now in
    let known = subst (λ (found : Option (Vec ByteRange Global)). IfSome found (λ moved. (list_any (is_outside self.range) c.args.ranges.now ≡ false) × (moved.items ≡ map (moved_range self.range) c.args.ranges.now))) c.in-Some.is c.in_ok-moved.ensures.some in
    let within = ap (any_past_end contents) (c.as_slice.ensures.value ∙ known.1) ∙ inner_within contents self.range c.args.ranges.now (self.inside honest) known.0 in
    refused_alike contents (interval_of contents self.range) c.as_slice.result.now c.args.ranges.now c.partial_decode_concat.result within (c.partial_decode_concat.ensures.cause honest)

pub returns-in-Some-clause-most : goal.returns-in-Some-clause-most
returns-in-Some-clause-most g c = λ honest.
    let D = g.D.BytesPartialDecoderTraits in
    let self = c.args.self.now in
    let contents = D.contents self.source.now in
    let known = subst (λ (found : Option (Vec ByteRange Global)). IfSome found (λ moved. (list_any (is_outside self.range) c.args.ranges.now ≡ false) × (moved.items ≡ map (moved_range self.range) c.args.ranges.now))) c.in-Some.is c.in_ok-moved.ensures.some in
    let moved = c.as_slice.ensures.value ∙ known.1 in
    subst (λ bytes. D.given_bytes c.partial_decode_concat.new.self ≤ D.given_bytes self.source.now + value_length bytes) (ap (concat_of contents) moved ∙ interval_concat contents self.range c.args.ranges.now known.0) (c.partial_decode_concat.ensures.most honest)
