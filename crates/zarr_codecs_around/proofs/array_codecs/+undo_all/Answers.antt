use Rattle.std.proofs.Common.{rules, ◌≡◌, ◌<◌, ◌≤◌, ◌∙◌, List, [], ◌∷◌, ◌++◌, length, ap, arith, sym, subst, true, Ok, Err}
use Rattle.std.proofs.lemmas.Bool.{and_parts, eqb-false, eqb-true}
use Rattle.std.proofs.lemmas.List.{drop_all, map-append}
use Rattle.zarr_codecs_meaning.specs.Chains.{ArrayCodec}
use Rattle.zarr_codecs_meaning.specs.Fits.{array_codec_fits}
use Rattle.zarr_codecs_meaning.specs.Places.{encoded_shape}
use Rattle.zarr_codecs_arrays.specs.Views.{elements_of}
use Rattle.zarr_codecs_array_to_array.specs.Views.{codec_of}
use Rattle.zarr_codecs_array_to_array.specs.declared.codec.ArrayToArrayCodec.{ArrayToArrayCodec}
use Rattle.zarr_codecs_around.specs.ArrayCodecs.{UndoesAll, all_fit, shape_after}
use Rattle.zarr_codecs_around.specs.Views.{codecs_of}
use Rattle.zarr_codecs_around.proofs.AllArrayCodecs.{fit_more, undoes_more, undoes_next, undoes_none, undoes_unfit}
use Rattle.zarr_codecs_around.proofs.array_codecs.+undo_all.Goals as goal

pub returns-then-is_empty : goal.returns-then-is_empty
returns-then-is_empty t c =
    let codec = codec_of c.in-Some.codec.now in
    let others = c.in-Some.others.now in
    let elements = elements_of c.args.elements.now in
    let shape = c.args.shape.now in
    let found = c.args.found in
    let none : length others ≡ 0 = eqb-true (length others) 0 (sym c.is_empty.ensures ∙ c.if-is_empty.true) in
    let few : length others ≤ 0 = omega arith in
    let alone : codecs_of c.args.codecs.now ≡ codec ∷ [] = ap codecs_of c.in-Some.ensures.cases.0 ∙ ap (λ (others : List ArrayToArrayCodec). codec ∷ codecs_of others) (drop_all 0 others few) in
    let fit : array_codec_fits codec shape ≡ true = (and_parts (array_codec_fits codec shape) (all_fit [] (encoded_shape codec shape)) (ap (λ (codecs : List ArrayCodec). all_fit codecs shape) (sym alone) ∙ c.requires)).0 in
    subst (λ (codecs : List ArrayCodec). UndoesAll codecs elements shape found c.decode.result) (sym alone)
    (undoes_next codec [] elements shape found found c.decode.result c.args.elements.now.fills fit (λ chain value h. h) c.decode.ensures)

pub undo_all-requires : goal.undo_all-requires
undo_all-requires t c =
    let first = codecs_of c.split_at.result.0.now in
    let last = codecs_of c.split_at.result.1.now in
    let shape = c.args.shape.now in
    let whole : codecs_of c.args.codecs.now ≡ first ++ last = ap codecs_of c.split_at.ensures.by_index.0 ∙ map-append codec_of c.split_at.result.0.now c.split_at.result.1.now in
    let told : c.as_slice.result.now ≡ shape_after first shape = c.as_slice.ensures.value ∙ c.in-Ok.ensures.1 in
    let all = sym (fit_more first last shape) ∙ (ap (λ (codecs : List ArrayCodec). all_fit codecs shape) (sym whole) ∙ c.requires) in
    let fit : all_fit last c.as_slice.result.now ≡ true = ap (all_fit last) told ∙ (and_parts (all_fit first shape) (all_fit last (shape_after first shape)) all).1 in
    let some = eqb-false (length c.in-Some.others.now) 0 (sym c.is_empty.ensures ∙ c.if-is_empty.false) in
    let fewer : length c.split_at.result.1.now < length c.args.codecs.now = omega (arith, some, c.in-Some.ensures.cases.1, c.split_at.ensures.back_len) in
    search (rules, fewer, fit)

pub returns-in-Err : goal.returns-in-Err
returns-in-Err t c =
    let first = codecs_of c.split_at.result.0.now in
    let last = codecs_of c.split_at.result.1.now in
    let elements = elements_of c.args.elements.now in
    let shape = c.args.shape.now in
    let e = c.in-Err.error in
    let whole : codecs_of c.args.codecs.now ≡ first ++ last = ap codecs_of c.split_at.ensures.by_index.0 ∙ map-append codec_of c.split_at.result.0.now c.split_at.result.1.now in
    subst (λ (codecs : List ArrayCodec). UndoesAll codecs elements shape c.args.found (Err e)) (sym whole) (undoes_unfit first last elements shape c.args.found e c.in-Err.ensures)

pub returns-in-Ok-undo_all : goal.returns-in-Ok-undo_all
returns-in-Ok-undo_all t c =
    let first = codecs_of c.split_at.result.0.now in
    let last = codecs_of c.split_at.result.1.now in
    let elements = elements_of c.args.elements.now in
    let shape = c.args.shape.now in
    let moved = c.in-Ok-undo_all.moved in
    let r = c.undo_all-in-Ok-undo_all.result in
    let whole : codecs_of c.args.codecs.now ≡ first ++ last = ap codecs_of c.split_at.ensures.by_index.0 ∙ map-append codec_of c.split_at.result.0.now c.split_at.result.1.now in
    let told : c.as_slice.result.now ≡ shape_after first shape = c.as_slice.ensures.value ∙ c.in-Ok.ensures.1 in
    subst (λ (codecs : List ArrayCodec). UndoesAll codecs elements shape c.args.found r) (sym whole)
    (undoes_more first last elements shape c.args.found moved r (subst (λ es. UndoesAll last elements es c.args.found (Ok moved)) told c.in-Ok-undo_all.ensures) c.undo_all-in-Ok-undo_all.ensures)

pub returns : goal.returns
returns t c =
    let first = codecs_of c.split_at.result.0.now in
    let last = codecs_of c.split_at.result.1.now in
    let elements = elements_of c.args.elements.now in
    let shape = c.args.shape.now in
    let e = c.in-Err-undo_all.error in
    let whole : codecs_of c.args.codecs.now ≡ first ++ last = ap codecs_of c.split_at.ensures.by_index.0 ∙ map-append codec_of c.split_at.result.0.now c.split_at.result.1.now in
    let told : c.as_slice.result.now ≡ shape_after first shape = c.as_slice.ensures.value ∙ c.in-Ok.ensures.1 in
    subst (λ (codecs : List ArrayCodec). UndoesAll codecs elements shape c.args.found (Err e)) (sym whole)
    (undoes_none first last elements shape c.args.found e c.in-Ok.ensures.0 (subst (λ es. UndoesAll last elements es c.args.found (Err e)) told c.in-Err-undo_all.ensures))
