use Rattle.std.proofs.Common.{rules, ◌≡◌, ◌∙◌, ap, sym, subst, length, map, inr, [], Bool, true, Ok, Err}
use Rattle.std.proofs.lemmas.Bool.{eqb-true}
use Rattle.std.proofs.lemmas.List.{nil_from_length}
use Rattle.zarr_codecs_arrays.specs.Views.{elements_of, payload_of}
use Rattle.zarr_codecs_traits.specs.Arrays.{coded}
use Rattle.zarr_codecs_traits.specs.Outcomes.{Encodes}
use Rattle.zarr_codecs_traits.specs.Pieces.{SplitsArray}
use Rattle.zarr_codecs_traits.specs.declared.pieces.SplitArray.{SplitArray}
use Rattle.zarr_codecs_around.specs.Views.{with_codecs}
use Rattle.zarr_codecs_around.proofs.Chains.{encodes_alike}
use Rattle.zarr_codecs_around.proofs.CutBefore.{refused_behind, split_alone}
use Rattle.zarr_codecs_around.proofs.then_bytes.ThenBytesArrayToBytesCodecTraits.split_array.Goals as goal

pub returns-then-is_empty : goal.returns-then-is_empty
returns-then-is_empty g c =
    let A = g.A.ArrayToBytesCodecTraits in
    let meaning = g.B.BytesToBytesCodecTraits.meaning in
    let codec = c.args.self.now.codec in
    let bytes = c.args.self.now.bytes_to_bytes in
    let chain = A.meaning codec in
    let elements = elements_of c.args.elements.now in
    let shape = c.args.shape.now in
    let payload = payload_of c.args.bytes in
    let same : bytes.len ≡ length bytes.items = search rules in
    let none : map meaning bytes.items ≡ [] = ap (map meaning) (nil_from_length bytes.items (sym same ∙ eqb-true bytes.len 0 (sym c.is_empty.ensures ∙ c.if-is_empty.true))) in
    split_alone (A.cuts_array codec (coded chain elements shape) payload) chain (map meaning bytes.items) (A.is_function codec) elements shape payload c.split_array.result none c.split_array.ensures

pub returns-in-Ok-encode_made : goal.returns-in-Ok-encode_made
returns-in-Ok-encode_made g c =
    let A = g.A.ArrayToBytesCodecTraits in
    let meaning = g.B.BytesToBytesCodecTraits.meaning in
    let codec = c.args.self.now.codec in
    let chain = A.meaning codec in
    let elements = elements_of c.args.elements.now in
    let shape = c.args.shape.now in
    let payload = payload_of c.args.bytes in
    let array = coded chain elements shape in
    let made = c.in-Ok-encode_made.made in
    let exact : A.is_function codec ≡ true = sym c.encoding_is_function.ensures ∙ c.if-not-encoding_is_function.false in
    let split = subst (λ (s : SplitArray). SplitsArray (A.cuts_array codec array payload) array (A.is_function codec) payload (Ok s)) c.in-Ok-Encoded.field-0-is c.in-Ok-Encoded.ensures in
    let before = subst (λ (b : Bool). Encodes array b payload (Ok c.in-Ok-Encoded.value)) exact split in
    let after = c.in-Ok-encode_made.ensures chain elements shape payload (g.met.A.ArrayToBytesCodecTraits.lawful codec) c.args.elements.now.fills before in
    encodes_alike (with_codecs chain (map meaning c.args.self.now.bytes_to_bytes.items)) (A.is_function codec) elements shape payload (Ok made)
    (subst (λ xs. Encodes (coded (with_codecs chain (map meaning xs)) elements shape) true payload (Ok made)) c.as_slice.ensures.value after)

pub returns-in-Err-encode_made : goal.returns-in-Err-encode_made
returns-in-Err-encode_made g c =
    let A = g.A.ArrayToBytesCodecTraits in
    let meaning = g.B.BytesToBytesCodecTraits.meaning in
    let codec = c.args.self.now.codec in
    let chain = A.meaning codec in
    let elements = elements_of c.args.elements.now in
    let shape = c.args.shape.now in
    let payload = payload_of c.args.bytes in
    let array = coded chain elements shape in
    let e = c.in-Err-encode_made.error in
    let exact : A.is_function codec ≡ true = sym c.encoding_is_function.ensures ∙ c.if-not-encoding_is_function.false in
    let split = subst (λ (s : SplitArray). SplitsArray (A.cuts_array codec array payload) array (A.is_function codec) payload (Ok s)) c.in-Ok-Encoded.field-0-is c.in-Ok-Encoded.ensures in
    let before = subst (λ (b : Bool). Encodes array b payload (Ok c.in-Ok-Encoded.value)) exact split in
    let after = c.in-Err-encode_made.ensures chain elements shape payload (g.met.A.ArrayToBytesCodecTraits.lawful codec) c.args.elements.now.fills before in
    encodes_alike (with_codecs chain (map meaning c.args.self.now.bytes_to_bytes.items)) (A.is_function codec) elements shape payload (Err e)
    (subst (λ xs. Encodes (coded (with_codecs chain (map meaning xs)) elements shape) true payload (Err e)) c.as_slice.ensures.value after)

pub returns-in-Ok-Cut : goal.returns-in-Ok-Cut
returns-in-Ok-Cut g c =
    let A = g.A.ArrayToBytesCodecTraits in
    let codec = c.args.self.now.codec in
    let payload = payload_of c.args.bytes in
    let array = coded (A.meaning codec) (elements_of c.args.elements.now) c.args.shape.now in
    let split = subst (λ (s : SplitArray). SplitsArray (A.cuts_array codec array payload) array (A.is_function codec) payload (Ok s)) c.in-Ok-Cut.field-0-is c.in-Ok-Cut.ensures in
    record { alone = inr (sym c.encoding_is_function.ensures ∙ c.if-not-encoding_is_function.false); cut = split }

pub returns-in-Err-split_array : goal.returns-in-Err-split_array
returns-in-Err-split_array g c =
    let A = g.A.ArrayToBytesCodecTraits in
    let codec = c.args.self.now.codec in
    let codecs = map g.B.BytesToBytesCodecTraits.meaning c.args.self.now.bytes_to_bytes.items in
    let exact : A.is_function codec ≡ true = sym c.encoding_is_function.ensures ∙ c.if-not-encoding_is_function.false in
    refused_behind (A.meaning codec) codecs (A.is_function codec) (elements_of c.args.elements.now) c.args.shape.now (payload_of c.args.bytes) c.in-Err-split_array.error exact c.in-Err-split_array.ensures
