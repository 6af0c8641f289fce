use Rattle.std.proofs.Common.{rules, ◌≡◌, ◌<◌, ◌≤◌, ◌∙◌, List, [], ◌∷◌, ◌++◌, length, ap, arith, sym, subst, true, Ok, Err}
use Rattle.std.proofs.lemmas.Bool.{eqb-false, eqb-true}
use Rattle.std.proofs.lemmas.List.{drop_all, map-append}
use Rattle.zarr_grids_boxes.specs.Subsets.{region_of}
use Rattle.zarr_codecs_meaning.specs.Chains.{ArrayCodec}
use Rattle.zarr_codecs_arrays.specs.Views.{elements_of, payload_of}
use Rattle.zarr_codecs_arrays.specs.declared.array_bytes.ArrayBytes.{ArrayBytes}
use Rattle.zarr_codecs_array_to_array.specs.Views.{codec_of}
use Rattle.zarr_codecs_array_to_array.specs.declared.codec.ArrayToArrayCodec.{ArrayToArrayCodec}
use Rattle.zarr_codecs_traits.specs.Indexers.{shape_has}
use Rattle.zarr_codecs_traits.specs.Outcomes.{DecodesArray}
use Rattle.zarr_codecs_boxes.specs.Updates.{IsBoxIn}
use Rattle.zarr_codecs_around.specs.MovedBoxes.{UndoesBox, array_box}
use Rattle.zarr_codecs_around.specs.Views.{codecs_of}
use Rattle.zarr_codecs_around.proofs.MovedBoxes.{box_inside, unboxed_source, undoes_both, undoes_first, undoes_one, undoes_unboxed, undone_source}
use Rattle.zarr_codecs_around.proofs.moved_boxes.+undo_box.Goals as goal

pub returns-then-is_empty-clause-undone : goal.returns-then-is_empty-clause-undone
returns-then-is_empty-clause-undone t c =
    let codec = codec_of c.in-Some.codec.now in
    let others = c.in-Some.others.now in
    let elements = elements_of c.args.part.elements.now in
    let shape = c.args.part.shape.now in
    let region = region_of c.args.part.subset.now in
    let found = c.args.found in
    let r = c.decode.result in
    let box : IsBoxIn shape region = record { dimensions = c.args.part.subset.now.same; inside = c.args.part.inside } in
    let none : length others ≡ 0 = eqb-true (length others) 0 (sym c.is_empty.ensures ∙ c.if-is_empty.true) in
    let few : length others ≤ 0 = omega arith in
    let alone : codecs_of c.args.codecs.now ≡ codec ∷ [] = ap codecs_of c.in-Some.ensures.cases.0 ∙ ap (λ (others : List ArrayToArrayCodec). codec ∷ codecs_of others) (drop_all 0 others few) in
    let undone = subst (λ es. DecodesArray codec elements es (payload_of found) r) c.shape.ensures c.decode.ensures in
    subst (λ (codecs : List ArrayCodec). UndoesBox codecs elements (array_box shape region) found r) (sym alone) (undoes_one codec elements shape region found r c.args.part.elements.now.fills box undone)

pub returns-then-is_empty-clause-no_source : goal.returns-then-is_empty-clause-no_source
returns-then-is_empty-clause-no_source t c = λ count. undone_source (codec_of c.in-Some.codec.now) (elements_of c.args.part.elements.now) c.shape.result.now (payload_of c.args.found) c.decode.result c.decode.ensures count

pub invariant_of-inner : goal.invariant_of-inner
invariant_of-inner t c =
    let first = codecs_of c.split_at.result.0.now in
    let shape = c.args.part.shape.now in
    let region = region_of c.args.part.subset.now in
    let box : IsBoxIn shape region = record { dimensions = c.args.part.subset.now.same; inside = c.args.part.inside } in
    let moved = region_of c.in-Ok.after.subset in
    record { inside = subst (λ es. shape_has es moved ≡ true) (sym c.as_slice.ensures.value) (box_inside first shape region c.in-Ok.after.shape.items moved box c.in-Ok.ensures).inside }

pub undo_box-requires : goal.undo_box-requires
undo_box-requires t c =
    let some = eqb-false (length c.in-Some.others.now) 0 (sym c.is_empty.ensures ∙ c.if-is_empty.false) in
    let fewer : length c.split_at.result.1.now < length c.args.codecs.now = omega (arith, some, c.in-Some.ensures.cases.1, c.split_at.ensures.back_len) in
    search (rules, fewer)

pub returns-in-Err-clause-undone : goal.returns-in-Err-clause-undone
returns-in-Err-clause-undone t c =
    let first = codecs_of c.split_at.result.0.now in
    let last = codecs_of c.split_at.result.1.now in
    let elements = elements_of c.args.part.elements.now in
    let shape = c.args.part.shape.now in
    let region = region_of c.args.part.subset.now in
    let e = c.in-Err.error in
    let whole : codecs_of c.args.codecs.now ≡ first ++ last = ap codecs_of c.split_at.ensures.by_index.0 ∙ map-append codec_of c.split_at.result.0.now c.split_at.result.1.now in
    subst (λ (codecs : List ArrayCodec). UndoesBox codecs elements (array_box shape region) c.args.found (Err e)) (sym whole) (undoes_unboxed first last elements shape region c.args.found e c.in-Err.ensures)

pub returns-in-Err-clause-no_source : goal.returns-in-Err-clause-no_source
returns-in-Err-clause-no_source t c = λ count. unboxed_source ArrayBytes (codecs_of c.split_at.result.0.now) c.args.part.shape.now (region_of c.args.part.subset.now) c.in-Err.error c.in-Err.ensures count

pub returns-in-Ok-undo_box-clause-undone : goal.returns-in-Ok-undo_box-clause-undone
returns-in-Ok-undo_box-clause-undone t c =
    let first = codecs_of c.split_at.result.0.now in
    let last = codecs_of c.split_at.result.1.now in
    let elements = elements_of c.args.part.elements.now in
    let shape = c.args.part.shape.now in
    let region = region_of c.args.part.subset.now in
    let found = c.args.found in
    let after = c.in-Ok.after in
    let moved = c.in-Ok-undo_box.moved in
    let r = c.undo_box-in-Ok-undo_box.result in
    let whole : codecs_of c.args.codecs.now ≡ first ++ last = ap codecs_of c.split_at.ensures.by_index.0 ∙ map-append codec_of c.split_at.result.0.now c.split_at.result.1.now in
    let second = subst (λ es. UndoesBox last elements (array_box es (region_of after.subset)) found (Ok moved)) c.as_slice.ensures.value c.in-Ok-undo_box.ensures.undone in
    subst (λ (codecs : List ArrayCodec). UndoesBox codecs elements (array_box shape region) found r) (sym whole)
    (undoes_both first last elements shape region after.shape.items (region_of after.subset) found moved r c.in-Ok.ensures second c.undo_box-in-Ok-undo_box.ensures.undone)

pub returns-clause-undone : goal.returns-clause-undone
returns-clause-undone t c =
    let first = codecs_of c.split_at.result.0.now in
    let last = codecs_of c.split_at.result.1.now in
    let elements = elements_of c.args.part.elements.now in
    let shape = c.args.part.shape.now in
    let region = region_of c.args.part.subset.now in
    let found = c.args.found in
    let after = c.in-Ok.after in
    let e = c.in-Err-undo_box.error in
    let box : IsBoxIn shape region = record { dimensions = c.args.part.subset.now.same; inside = c.args.part.inside } in
    let whole : codecs_of c.args.codecs.now ≡ first ++ last = ap codecs_of c.split_at.ensures.by_index.0 ∙ map-append codec_of c.split_at.result.0.now c.split_at.result.1.now in
    let second = subst (λ es. UndoesBox last elements (array_box es (region_of after.subset)) found (Err e)) c.as_slice.ensures.value c.in-Err-undo_box.ensures.undone in
    subst (λ (codecs : List ArrayCodec). UndoesBox codecs elements (array_box shape region) found (Err e)) (sym whole) (undoes_first first last elements shape region after.shape.items (region_of after.subset) found e box c.in-Ok.ensures second)
