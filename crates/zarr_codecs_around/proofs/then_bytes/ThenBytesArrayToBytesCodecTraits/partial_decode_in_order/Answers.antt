use Rattle.std.proofs.Common.{rules, ◌≡◌, ◌∙◌, sym, subst, length, map}
use Rattle.std.proofs.lemmas.Bool.{eqb-false}
use Rattle.zarr_codecs_arrays.specs.Views.{elements_of}
use Rattle.zarr_codecs_traits.specs.Indexers.{asked_of}
use Rattle.zarr_codecs_traits.specs.Arrays.{coded}
use Rattle.zarr_codecs_traits.specs.Outcomes.{DecodesPart}
use Rattle.zarr_codecs_traits.specs.Sources.{value_bytes}
use Rattle.zarr_codecs_around.specs.Views.{with_codecs}
use Rattle.zarr_codecs_around.specs.ThenBytes.{then_meaning}
use Rattle.zarr_codecs_around.proofs.Taken.{codecs_most}
use Rattle.zarr_codecs_around.proofs.then_bytes.ThenBytesArrayToBytesCodecTraits.partial_decode_in_order.Goals as goal

pub returns-in-Ok-clause-part : goal.returns-in-Ok-clause-part
returns-in-Ok-clause-part g c = λ honest.
    let meaning = g.B.BytesToBytesCodecTraits.meaning in
    let chain = g.A.ArrayToBytesCodecTraits.meaning c.args.self.now.codec in
    let elements = elements_of c.args.part.elements.now in
    let shape = c.args.part.shape.now in
    let asked = asked_of c.args.part.indexer in
    let r = c.decode_stored_part.result in
    let found = subst (λ xs. DecodesPart (coded (with_codecs chain (map meaning xs)) elements shape) (value_bytes c.in-Ok.value) asked r) c.as_slice-codecs.ensures.value c.decode_stored_part.ensures.part in
    subst (λ stored. DecodesPart (coded (then_meaning g.A.ArrayToBytesCodecTraits.meaning meaning c.args.self.now) elements shape) stored asked r) (c.in-Ok.ensures.value honest) found

pub returns-in-Ok-clause-refused : goal.returns-in-Ok-clause-refused
returns-in-Ok-clause-refused g c = c.in-Ok.ensures.refused ∙ sym (c.decode_stored_part.ensures.no_source _)

pub returns-in-Ok-clause-given : goal.returns-in-Ok-clause-given
returns-in-Ok-clause-given g c = λ honest.
    let meaning = g.B.BytesToBytesCodecTraits.meaning in
    let D = g.D.BytesPartialDecoderTraits in
    let chain = c.args.self.now in
    let codecs = chain.bytes_to_bytes in
    let some = eqb-false codecs.len 0 (sym c.is_empty.ensures ∙ c.if-is_empty.false) in
    let same : codecs.len ≡ length codecs.items = search rules in
    codecs_most (g.A.ArrayToBytesCodecTraits.meaning chain.codec) meaning codecs.items (elements_of c.args.part.elements.now).type c.args.part.shape.now (D.contents c.args.source.now) (asked_of c.args.part.indexer) (D.given_bytes c.args.source.now) (D.given_bytes c.read_value.new.source) (λ e. some (same ∙ e)) (c.in-Ok.ensures.given honest)

pub returns-in-Err-clause-given : goal.returns-in-Err-clause-given
returns-in-Err-clause-given g c = λ honest.
    let meaning = g.B.BytesToBytesCodecTraits.meaning in
    let D = g.D.BytesPartialDecoderTraits in
    let chain = c.args.self.now in
    let codecs = chain.bytes_to_bytes in
    let some = eqb-false codecs.len 0 (sym c.is_empty.ensures ∙ c.if-is_empty.false) in
    let same : codecs.len ≡ length codecs.items = search rules in
    codecs_most (g.A.ArrayToBytesCodecTraits.meaning chain.codec) meaning codecs.items (elements_of c.args.part.elements.now).type c.args.part.shape.now (D.contents c.args.source.now) (asked_of c.args.part.indexer) (D.given_bytes c.args.source.now) (D.given_bytes c.read_value.new.source) (λ e. some (same ∙ e)) (c.in-Err.ensures.given honest)
