use Rattle.std.proofs.Common.{rules, ◌≡◌, ◌∙◌, ap, map, subst, sym, Some, Ok, Err}
use Rattle.zarr_codecs_arrays.specs.Views.{elements_of}
use Rattle.zarr_codecs_traits.specs.Compactions.{Compacts}
use Rattle.zarr_codecs_traits.specs.Outcomes.{MakesBytes, UndoesBytes}
use Rattle.zarr_codecs_around.specs.Codecs.{all_decoded, all_encoded}
use Rattle.zarr_codecs_around.proofs.Compacting.{compacts_again, compacts_nothing, compacts_refused, compacts_unless_undone, compacts_unmade}
use Rattle.zarr_codecs_around.proofs.then_bytes.compact_inside.Goals as goal

pub returns-in-Err : goal.returns-in-Err
returns-in-Err g c =
    let meaning = g.B.BytesToBytesCodecTraits.meaning in
    let e = c.in-Err.error in
    let same : c.in_ok-to_vec.field-0.items ≡ c.args.value.now = search rules in
    let refused = subst (λ xs. UndoesBytes (all_decoded (map meaning xs)) c.in_ok-to_vec.field-0.items (Err e)) c.as_slice-codecs.ensures.value c.in-Err.ensures in
    compacts_unless_undone (g.A.ArrayToBytesCodecTraits.meaning c.args.codec.now.codec) (map meaning c.args.codec.now.bytes_to_bytes.items) (elements_of c.args.array.elements.now).type c.args.array.shape.now c.args.value.now e c.requires.fit c.requires.shards
    (subst (λ xs. UndoesBytes (all_decoded (map meaning c.args.codec.now.bytes_to_bytes.items)) xs (Err e)) same refused)

pub returns-in-Ok-encode_all : goal.returns-in-Ok-encode_all
returns-in-Ok-encode_all g c =
    let meaning = g.B.BytesToBytesCodecTraits.meaning in
    let codecs = map meaning c.args.codec.now.bytes_to_bytes.items in
    let value = c.args.value.now in
    let inside = c.in-Ok.inside.items in
    let same : c.in_ok-to_vec.field-0.items ≡ value = search rules in
    let given : all_decoded codecs value ≡ Some inside = ap (all_decoded codecs) (sym same) ∙ (ap (λ xs. all_decoded (map meaning xs) c.in_ok-to_vec.field-0.items) (sym c.as_slice-codecs.ensures.value) ∙ c.in-Ok.ensures) in
    let made = subst (λ xs. MakesBytes (all_encoded (map meaning xs)) c.in-Ok-Some.made.items (Ok c.in-Ok-encode_all.encoded)) c.as_slice-codecs.ensures.value c.in-Ok-encode_all.ensures in
    compacts_again (g.A.ArrayToBytesCodecTraits.meaning c.args.codec.now.codec) codecs (elements_of c.args.array.elements.now).type c.args.array.shape.now value inside c.in-Ok-Some.made c.in-Ok-encode_all.encoded c.requires.shards given
    (subst (λ o. Compacts (g.A.ArrayToBytesCodecTraits.meaning c.args.codec.now.codec) (elements_of c.args.array.elements.now).type c.args.array.shape.now inside (Ok o)) c.in-Ok-Some.field-0-is
    (subst (λ ns. Compacts (g.A.ArrayToBytesCodecTraits.meaning c.args.codec.now.codec) (elements_of c.args.array.elements.now).type c.args.array.shape.now ns (Ok c.in-Ok-Some.field-0)) c.as_slice.ensures.value c.in-Ok-Some.ensures)) made

pub returns-in-Ok-Some : goal.returns-in-Ok-Some
returns-in-Ok-Some g c =
    let meaning = g.B.BytesToBytesCodecTraits.meaning in
    let codecs = map meaning c.args.codec.now.bytes_to_bytes.items in
    let value = c.args.value.now in
    let inside = c.in-Ok.inside.items in
    let e = c.in-Err-encode_all.error in
    let same : c.in_ok-to_vec.field-0.items ≡ value = search rules in
    let given : all_decoded codecs value ≡ Some inside = ap (all_decoded codecs) (sym same) ∙ (ap (λ xs. all_decoded (map meaning xs) c.in_ok-to_vec.field-0.items) (sym c.as_slice-codecs.ensures.value) ∙ c.in-Ok.ensures) in
    let unmade = subst (λ xs. MakesBytes (all_encoded (map meaning xs)) c.in-Ok-Some.made.items (Err e)) c.as_slice-codecs.ensures.value c.in-Err-encode_all.ensures in
    compacts_unmade (g.A.ArrayToBytesCodecTraits.meaning c.args.codec.now.codec) codecs (elements_of c.args.array.elements.now).type c.args.array.shape.now value inside c.in-Ok-Some.made e c.requires.shards given
    (subst (λ o. Compacts (g.A.ArrayToBytesCodecTraits.meaning c.args.codec.now.codec) (elements_of c.args.array.elements.now).type c.args.array.shape.now inside (Ok o)) c.in-Ok-Some.field-0-is
    (subst (λ ns. Compacts (g.A.ArrayToBytesCodecTraits.meaning c.args.codec.now.codec) (elements_of c.args.array.elements.now).type c.args.array.shape.now ns (Ok c.in-Ok-Some.field-0)) c.as_slice.ensures.value c.in-Ok-Some.ensures)) unmade

pub returns-in-Ok-None : goal.returns-in-Ok-None
returns-in-Ok-None g c =
    let meaning = g.B.BytesToBytesCodecTraits.meaning in
    let codecs = map meaning c.args.codec.now.bytes_to_bytes.items in
    let value = c.args.value.now in
    let inside = c.in-Ok.inside.items in
    let same : c.in_ok-to_vec.field-0.items ≡ value = search rules in
    let given : all_decoded codecs value ≡ Some inside = ap (all_decoded codecs) (sym same) ∙ (ap (λ xs. all_decoded (map meaning xs) c.in_ok-to_vec.field-0.items) (sym c.as_slice-codecs.ensures.value) ∙ c.in-Ok.ensures) in
    compacts_nothing (g.A.ArrayToBytesCodecTraits.meaning c.args.codec.now.codec) codecs (elements_of c.args.array.elements.now).type c.args.array.shape.now value inside c.requires.shards given
    (subst (λ o. Compacts (g.A.ArrayToBytesCodecTraits.meaning c.args.codec.now.codec) (elements_of c.args.array.elements.now).type c.args.array.shape.now inside (Ok o)) c.in-Ok-None.field-0-is
    (subst (λ ns. Compacts (g.A.ArrayToBytesCodecTraits.meaning c.args.codec.now.codec) (elements_of c.args.array.elements.now).type c.args.array.shape.now ns (Ok c.in-Ok-None.field-0)) c.as_slice.ensures.value c.in-Ok-None.ensures))

pub returns : goal.returns
returns g c =
    let meaning = g.B.BytesToBytesCodecTraits.meaning in
    let codecs = map meaning c.args.codec.now.bytes_to_bytes.items in
    let value = c.args.value.now in
    let inside = c.in-Ok.inside.items in
    let e = c.in-Err-compact_in_order.error in
    let same : c.in_ok-to_vec.field-0.items ≡ value = search rules in
    let given : all_decoded codecs value ≡ Some inside = ap (all_decoded codecs) (sym same) ∙ (ap (λ xs. all_decoded (map meaning xs) c.in_ok-to_vec.field-0.items) (sym c.as_slice-codecs.ensures.value) ∙ c.in-Ok.ensures) in
    compacts_refused (g.A.ArrayToBytesCodecTraits.meaning c.args.codec.now.codec) codecs (elements_of c.args.array.elements.now).type c.args.array.shape.now value inside e c.requires.shards given
    (subst (λ ns. Compacts (g.A.ArrayToBytesCodecTraits.meaning c.args.codec.now.codec) (elements_of c.args.array.elements.now).type c.args.array.shape.now ns (Err e)) c.as_slice.ensures.value c.in-Err-compact_in_order.ensures)
