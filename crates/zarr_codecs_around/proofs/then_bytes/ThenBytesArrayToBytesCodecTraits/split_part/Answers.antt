use Rattle.std.proofs.Common.{rules, ◌≡◌, ◌∙◌, ap, sym, subst, length, map, [], List, ℕ, Option}
use Rattle.std.proofs.lemmas.Bool.{eqb-false, eqb-true}
use Rattle.std.proofs.lemmas.List.{nil_from_length}
use Rattle.zarr_codecs_arrays.specs.Views.{elements_of}
use Rattle.zarr_codecs_traits.specs.Indexers.{asked_of}
use Rattle.zarr_codecs_traits.specs.Arrays.{coded}
use Rattle.zarr_codecs_traits.specs.Pieces.{SplitsPart}
use Rattle.zarr_codecs_traits.specs.Sources.{value_bytes}
use Rattle.zarr_codecs_around.specs.Pieces.{IsPartCutInside}
use Rattle.zarr_codecs_around.specs.Views.{with_codecs}
use Rattle.zarr_codecs_around.proofs.CutInside.{none_undone, part_split}
use Rattle.zarr_codecs_around.proofs.Taken.{codecs_most}
use Rattle.zarr_codecs_around.proofs.then_bytes.ThenBytesArrayToBytesCodecTraits.split_part.Goals as goal

pub returns-then-is_empty-clause-part : goal.returns-then-is_empty-clause-part
returns-then-is_empty-clause-part g c = λ honest.
    let A = g.A.ArrayToBytesCodecTraits in
    let meaning = g.B.BytesToBytesCodecTraits.meaning in
    let codec = c.args.self.now.codec in
    let chain = A.meaning codec in
    let bytes = c.args.self.now.bytes_to_bytes in
    let elements = elements_of c.args.part.elements.now in
    let shape = c.args.part.shape.now in
    let asked = asked_of c.args.part.indexer in
    let contents = g.D.BytesPartialDecoderTraits.contents c.args.source.now in
    let same : bytes.len ≡ length bytes.items = search rules in
    let none : map meaning bytes.items ≡ [] = ap (map meaning) (nil_from_length bytes.items (sym same ∙ eqb-true bytes.len 0 (sym c.is_empty.ensures ∙ c.if-is_empty.true))) in
    part_split (λ inside. A.cuts_part codec (coded chain elements shape) inside asked) chain (map meaning bytes.items) elements shape contents contents asked c.split_part.result (none_undone (map meaning bytes.items) contents none) (c.split_part.ensures.part honest)

pub returns-in-Ok-clause-part : goal.returns-in-Ok-clause-part
returns-in-Ok-clause-part g c = λ honest.
    let A = g.A.ArrayToBytesCodecTraits in
    let meaning = g.B.BytesToBytesCodecTraits.meaning in
    let codec = c.args.self.now.codec in
    let chain = A.meaning codec in
    let elements = elements_of c.args.part.elements.now in
    let shape = c.args.part.shape.now in
    let asked = asked_of c.args.part.indexer in
    let cuts = λ (inside : Option (List ℕ)). A.cuts_part codec (coded chain elements shape) inside asked in
    let r = c.split_stored_part.result in
    let found = subst (λ xs. SplitsPart (IsPartCutInside cuts (map meaning xs) (value_bytes c.in-Ok.value)) (coded (with_codecs chain (map meaning xs)) elements shape) (value_bytes c.in-Ok.value) asked r) c.as_slice-codecs.ensures.value c.split_stored_part.ensures.part in
    subst (λ stored. SplitsPart (IsPartCutInside cuts (map meaning c.args.self.now.bytes_to_bytes.items) stored) (coded (with_codecs chain (map meaning c.args.self.now.bytes_to_bytes.items)) elements shape) stored asked r) (c.in-Ok.ensures.value honest) found

pub returns-in-Ok-clause-refused : goal.returns-in-Ok-clause-refused
returns-in-Ok-clause-refused g c = c.in-Ok.ensures.refused ∙ sym (c.split_stored_part.ensures.no_source _)

pub returns-in-Ok-clause-given : goal.returns-in-Ok-clause-given
returns-in-Ok-clause-given g c = λ honest.
    let meaning = g.B.BytesToBytesCodecTraits.meaning in
    let D = g.D.BytesPartialDecoderTraits in
    let chain = c.args.self.now in
    let codecs = chain.bytes_to_bytes in
    let some = eqb-false codecs.len 0 (sym c.is_empty.ensures ∙ c.if-is_empty.false) in
    let same : codecs.len ≡ length codecs.items = search rules in
    codecs_most (g.A.ArrayToBytesCodecTraits.meaning chain.codec) meaning codecs.items (elements_of c.args.part.elements.now).type c.args.part.shape.now (D.contents c.args.source.now) (asked_of c.args.part.indexer) (D.given_bytes c.args.source.now) (D.given_bytes c.read_value.new.source) (λ e. some (same ∙ e)) (c.in-Ok.ensures.given honest)

pub returns-in-Err-clause-given : goal.returns-in-Err-clause-given
returns-in-Err-clause-given g c = λ honest.
    let meaning = g.B.BytesToBytesCodecTraits.meaning in
    let D = g.D.BytesPartialDecoderTraits in
    let chain = c.args.self.now in
    let codecs = chain.bytes_to_bytes in
    let some = eqb-false codecs.len 0 (sym c.is_empty.ensures ∙ c.if-is_empty.false) in
    let same : codecs.len ≡ length codecs.items = search rules in
    codecs_most (g.A.ArrayToBytesCodecTraits.meaning chain.codec) meaning codecs.items (elements_of c.args.part.elements.now).type c.args.part.shape.now (D.contents c.args.source.now) (asked_of c.args.part.indexer) (D.given_bytes c.args.source.now) (D.given_bytes c.read_value.new.source) (λ e. some (same ∙ e)) (c.in-Err.ensures.given honest)
