use Rattle.std.proofs.Common.{rules, ◌≡◌, ◌∙◌, ap, sym, subst, length, map, [], Bool, true}
use Rattle.std.proofs.lemmas.Bool.{eqb-false, eqb-true}
use Rattle.std.proofs.lemmas.List.{nil_from_length}
use Rattle.zarr_codecs_arrays.specs.Views.{elements_of}
use Rattle.zarr_codecs_traits.specs.Arrays.{coded}
use Rattle.zarr_codecs_traits.specs.Outcomes.{Encodes}
use Rattle.zarr_codecs_around.specs.Views.{with_codecs}
use Rattle.zarr_codecs_around.proofs.Chains.{encodes_alike}
use Rattle.zarr_codecs_around.proofs.CutBefore.{encodes_alone, exact_behind}
use Rattle.zarr_codecs_around.proofs.then_bytes.ThenBytesArrayToBytesCodecTraits.join_pieces.Goals as goal

pub returns-then-is_empty : goal.returns-then-is_empty
returns-then-is_empty g c = λ payload cut made.
    let A = g.A.ArrayToBytesCodecTraits in
    let meaning = g.B.BytesToBytesCodecTraits.meaning in
    let codec = c.args.self.now.codec in
    let bytes = c.args.self.now.bytes_to_bytes in
    let same : bytes.len ≡ length bytes.items = search rules in
    let none : map meaning bytes.items ≡ [] = ap (map meaning) (nil_from_length bytes.items (sym same ∙ eqb-true bytes.len 0 (sym c.is_empty.ensures ∙ c.if-is_empty.true))) in
    encodes_alone (A.meaning codec) (map meaning bytes.items) (A.is_function codec) (elements_of c.args.elements.now) c.args.shape.now payload c.join_pieces-joined.result none (c.join_pieces-joined.ensures payload cut.cut made)

pub returns : goal.returns
returns g c = λ payload cut made.
    let A = g.A.ArrayToBytesCodecTraits in
    let meaning = g.B.BytesToBytesCodecTraits.meaning in
    let codec = c.args.self.now.codec in
    let bytes = c.args.self.now.bytes_to_bytes in
    let chain = A.meaning codec in
    let elements = elements_of c.args.elements.now in
    let shape = c.args.shape.now in
    let r = c.encode_made.result in
    let some = eqb-false bytes.len 0 (sym c.is_empty.ensures ∙ c.if-is_empty.false) in
    let same : bytes.len ≡ length bytes.items = search rules in
    let exact : A.is_function codec ≡ true = exact_behind meaning bytes.items (A.is_function codec) (λ e. some (same ∙ e)) cut.alone in
    let joined = subst (λ (b : Bool). Encodes (coded chain elements shape) b payload c.join_pieces-joined.result) exact (c.join_pieces-joined.ensures payload cut.cut made) in
    let after = c.encode_made.ensures chain elements shape payload (g.met.A.ArrayToBytesCodecTraits.lawful codec) c.args.elements.now.fills joined in
    encodes_alike (with_codecs chain (map meaning bytes.items)) (A.is_function codec) elements shape payload r
    (subst (λ xs. Encodes (coded (with_codecs chain (map meaning xs)) elements shape) true payload r) c.as_slice.ensures.value after)
