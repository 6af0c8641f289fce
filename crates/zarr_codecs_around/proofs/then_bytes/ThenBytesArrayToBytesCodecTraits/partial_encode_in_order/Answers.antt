use Rattle.std.proofs.Common.{rules, ◌≡◌, ◌∙◌, sym, length}
use Rattle.std.proofs.lemmas.Bool.{eqb-false}
use Rattle.zarr_codecs_traits.specs.Arrays.{coded_part, update_part}
use Rattle.zarr_codecs_traits.proofs.Damage.{whole_not_put}
use Rattle.zarr_codecs_traits.proofs.WrittenWhole.{whole_given, whole_parts}
use Rattle.zarr_codecs_around.specs.ThenBytes.{then_meaning}
use Rattle.zarr_codecs_around.proofs.Telling.{never_encodes}
use Rattle.zarr_codecs_around.proofs.then_bytes.ThenBytesArrayToBytesCodecTraits.partial_encode_in_order.Goals as goal

pub returns-clause-cause : goal.returns-clause-cause
returns-clause-cause g c = λ honest.
    let meaning = g.A.ArrayToBytesCodecTraits.meaning in
    let codecs = c.args.self.now.bytes_to_bytes in
    let some = eqb-false codecs.len 0 (sym c.is_empty.ensures ∙ c.if-is_empty.false) in
    let same : codecs.len ≡ length codecs.items = search rules in
    let chain = then_meaning meaning g.B.BytesToBytesCodecTraits.meaning c.args.self.now in
    let stored = g.E.BytesPartialDecoderTraits.contents c.args.source.now in
    let whole = sym (never_encodes (meaning c.args.self.now.codec) g.B.BytesToBytesCodecTraits.meaning codecs.items (λ e. some (same ∙ e))) in
    whole_not_put {A = Unit {0}} (coded_part chain c.args.part) (update_part c.args.part c.args.bytes stored) c.encode_whole.result whole (c.encode_whole.ensures.cause honest)

pub returns-clause-parts : goal.returns-clause-parts
returns-clause-parts g c = λ honest.
    let meaning = g.A.ArrayToBytesCodecTraits.meaning in
    let codecs = c.args.self.now.bytes_to_bytes in
    let some = eqb-false codecs.len 0 (sym c.is_empty.ensures ∙ c.if-is_empty.false) in
    let same : codecs.len ≡ length codecs.items = search rules in
    let chain = then_meaning meaning g.B.BytesToBytesCodecTraits.meaning c.args.self.now in
    let stored = g.E.BytesPartialDecoderTraits.contents c.args.source.now in
    let whole = sym (never_encodes (meaning c.args.self.now.codec) g.B.BytesToBytesCodecTraits.meaning codecs.items (λ e. some (same ∙ e))) in
    whole_parts (coded_part chain c.args.part) (update_part c.args.part c.args.bytes stored) (g.E.BytesPartialDecoderTraits.contents c.encode_whole.new.source) c.encode_whole.result whole (c.encode_whole.ensures.gapless honest)

pub returns-clause-given : goal.returns-clause-given
returns-clause-given g c = λ honest.
    let meaning = g.A.ArrayToBytesCodecTraits.meaning in
    let codecs = c.args.self.now.bytes_to_bytes in
    let some = eqb-false codecs.len 0 (sym c.is_empty.ensures ∙ c.if-is_empty.false) in
    let same : codecs.len ≡ length codecs.items = search rules in
    let chain = then_meaning meaning g.B.BytesToBytesCodecTraits.meaning c.args.self.now in
    let stored = g.E.BytesPartialDecoderTraits.contents c.args.source.now in
    let whole = sym (never_encodes (meaning c.args.self.now.codec) g.B.BytesToBytesCodecTraits.meaning codecs.items (λ e. some (same ∙ e))) in
    whole_given (coded_part chain c.args.part) (update_part c.args.part c.args.bytes stored) (g.E.BytesPartialEncoderTraits.writes_ranges c.args.source.now) (g.E.BytesPartialDecoderTraits.given_bytes c.args.source.now) (g.E.BytesPartialDecoderTraits.given_bytes c.encode_whole.new.source) whole (c.encode_whole.ensures.given honest)
