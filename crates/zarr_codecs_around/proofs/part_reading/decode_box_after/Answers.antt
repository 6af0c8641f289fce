use Rattle.std.proofs.Common.{rules, ◌≡◌, ◌<◌, ◌≤◌, ◌+◌, ◌^◌, ◌∙◌, List, ap, arith, sym, subst, true, Ok, Err}
use Rattle.std.proofs.lemmas.List.{map-append}
use Rattle.zarr_grids_boxes.specs.Boxes.{product}
use Rattle.zarr_grids_boxes.specs.Subsets.{region_of}
use Rattle.zarr_codecs_meaning.specs.Chains.{ArrayCodec, Chain}
use Rattle.zarr_codecs_arrays.specs.Views.{elements_of}
use Rattle.zarr_codecs_array_to_array.specs.Views.{codec_of}
use Rattle.zarr_codecs_traits.specs.Indexers.{in_box, shape_has}
use Rattle.zarr_codecs_traits.specs.Arrays.{coded}
use Rattle.zarr_codecs_traits.specs.Outcomes.{DecodesPart}
use Rattle.zarr_codecs_traits.specs.ReadBytes.{most_read}
use Rattle.zarr_codecs_boxes.specs.Updates.{IsBoxIn}
use Rattle.zarr_codecs_around.specs.Views.{codecs_of, with_array_codecs}
use Rattle.zarr_codecs_around.proofs.AllArrayCodecs.{with_more}
use Rattle.zarr_codecs_around.proofs.MovedBoxes.{box_inside, box_places, boxes_most, boxes_unread, unboxed_read}
use Rattle.zarr_codecs_around.proofs.part_reading.decode_box_after.Goals as goal

pub invariant_of-inner : goal.invariant_of-inner
invariant_of-inner g c =
    let first = codecs_of c.split_boxed.result.0.now in
    let shape = c.args.part.shape.now in
    let region = region_of c.args.part.subset.now in
    let place = c.in-Ok.place in
    let moved = region_of place.subset in
    let box : IsBoxIn shape region = record { dimensions = c.args.part.subset.now.same; inside = c.args.part.inside } in
    record { inside = subst (λ es. shape_has es moved ≡ true) (sym c.as_slice.ensures.value) (box_inside first shape region place.shape.items moved box c.in-Ok.ensures).inside }

pub decode_inner_box-requires : goal.decode_inner_box-requires
decode_inner_box-requires g c =
    let first = codecs_of c.split_boxed.result.0.now in
    let shape = c.args.part.shape.now in
    let region = region_of c.args.part.subset.now in
    let place = c.in-Ok.place in
    let many : product c.as_slice.result.now ≡ product shape = ap product c.as_slice.ensures.value ∙ box_places first shape region place.shape.items (region_of place.subset) c.in-Ok.ensures in
    let small : product shape < 2 ^ 63 = c.requires.small in
    let few : product c.as_slice.result.now < 2 ^ 63 = omega (arith, many, small) in
    search (rules, few)

pub returns-in-Err-clause-part : goal.returns-in-Err-clause-part
returns-in-Err-clause-part g c = λ honest.
    let rest = g.A.ArrayToBytesCodecTraits.meaning c.args.chain.rest.now in
    let first = codecs_of c.split_boxed.result.0.now in
    let last = codecs_of c.split_boxed.result.1.now in
    let elements = elements_of c.args.part.elements.now in
    let shape = c.args.part.shape.now in
    let region = region_of c.args.part.subset.now in
    let stored = g.D.BytesPartialDecoderTraits.contents c.args.source.now in
    let e = c.in-Err.error in
    let whole = sym (ap codecs_of (sym c.split_boxed.ensures) ∙ map-append codec_of c.split_boxed.result.0.now c.split_boxed.result.1.now) in
    subst (λ (codecs : List ArrayCodec). DecodesPart (coded (with_array_codecs codecs rest) elements shape) stored (in_box region) (Err e)) whole
    (subst (λ (chain : Chain). DecodesPart (coded chain elements shape) stored (in_box region) (Err e)) (sym (with_more first last rest))
    (unboxed_read first (with_array_codecs last rest) elements shape stored region (in_box region) e c.in-Err.ensures))

pub returns-in-Ok-decode_inner_box-clause-part : goal.returns-in-Ok-decode_inner_box-clause-part
returns-in-Ok-decode_inner_box-clause-part g c = λ honest.
    let rest = g.A.ArrayToBytesCodecTraits.meaning c.args.chain.rest.now in
    let first = codecs_of c.split_boxed.result.0.now in
    let last = codecs_of c.split_boxed.result.1.now in
    let chain = with_array_codecs last rest in
    let elements = elements_of c.args.part.elements.now in
    let shape = c.args.part.shape.now in
    let region = region_of c.args.part.subset.now in
    let place = c.in-Ok.place in
    let moved = region_of place.subset in
    let stored = g.D.BytesPartialDecoderTraits.contents c.args.source.now in
    let found = c.in-Ok-decode_inner_box.found in
    let r = c.undo_box.result in
    let whole = sym (ap codecs_of (sym c.split_boxed.ensures) ∙ map-append codec_of c.split_boxed.result.0.now c.split_boxed.result.1.now) in
    let read = subst (λ es. DecodesPart (coded chain elements es) stored (in_box moved) (Ok found)) c.as_slice.ensures.value (c.in-Ok-decode_inner_box.ensures.part honest) in
    subst (λ (codecs : List ArrayCodec). DecodesPart (coded (with_array_codecs codecs rest) elements shape) stored (in_box region) r) whole
    (subst (λ (chain : Chain). DecodesPart (coded chain elements shape) stored (in_box region) r) (sym (with_more first last rest))
    (c.undo_box.ensures.undone chain stored place.shape.items moved c.in-Ok.ensures read))

pub returns-in-Ok-decode_inner_box-clause-given : goal.returns-in-Ok-decode_inner_box-clause-given
returns-in-Ok-decode_inner_box-clause-given g c = λ honest.
    let D = g.D.BytesPartialDecoderTraits in
    let rest = g.A.ArrayToBytesCodecTraits.meaning c.args.chain.rest.now in
    let first = codecs_of c.split_boxed.result.0.now in
    let last = codecs_of c.split_boxed.result.1.now in
    let chain = with_array_codecs last rest in
    let type = (elements_of c.args.part.elements.now).type in
    let shape = c.args.part.shape.now in
    let region = region_of c.args.part.subset.now in
    let place = c.in-Ok.place in
    let moved = region_of place.subset in
    let stored = D.contents c.args.source.now in
    let old = D.given_bytes c.args.source.now in
    let new = D.given_bytes c.decode_inner_box.new.source in
    let box : IsBoxIn shape region = record { dimensions = c.args.part.subset.now.same; inside = c.args.part.inside } in
    let whole = sym (ap codecs_of (sym c.split_boxed.ensures) ∙ map-append codec_of c.split_boxed.result.0.now c.split_boxed.result.1.now) in
    let most = ap (λ es. most_read chain type es stored (in_box moved)) c.as_slice.ensures.value ∙ boxes_most first last rest type shape stored region place.shape.items moved c.requires.any_order box c.in-Ok.ensures in
    subst (λ (codecs : List ArrayCodec). new ≤ old + most_read (with_array_codecs codecs rest) type shape stored (in_box region)) whole
    (subst (λ n. new ≤ old + n) most (c.in-Ok-decode_inner_box.ensures.given honest))

pub returns-in-Ok-decode_inner_box-clause-refused : goal.returns-in-Ok-decode_inner_box-clause-refused
returns-in-Ok-decode_inner_box-clause-refused g c = c.in-Ok-decode_inner_box.ensures.refused ∙ sym (c.undo_box.ensures.no_source (g.D.BytesPartialDecoderTraits.refused_calls c.args.source.now))

pub returns-clause-part : goal.returns-clause-part
returns-clause-part g c = λ honest.
    let rest = g.A.ArrayToBytesCodecTraits.meaning c.args.chain.rest.now in
    let first = codecs_of c.split_boxed.result.0.now in
    let last = codecs_of c.split_boxed.result.1.now in
    let chain = with_array_codecs last rest in
    let elements = elements_of c.args.part.elements.now in
    let shape = c.args.part.shape.now in
    let region = region_of c.args.part.subset.now in
    let place = c.in-Ok.place in
    let moved = region_of place.subset in
    let stored = g.D.BytesPartialDecoderTraits.contents c.args.source.now in
    let e = c.in-Err-decode_inner_box.error in
    let box : IsBoxIn shape region = record { dimensions = c.args.part.subset.now.same; inside = c.args.part.inside } in
    let whole = sym (ap codecs_of (sym c.split_boxed.ensures) ∙ map-append codec_of c.split_boxed.result.0.now c.split_boxed.result.1.now) in
    let read = subst (λ es. DecodesPart (coded chain elements es) stored (in_box moved) (Err e)) c.as_slice.ensures.value (c.in-Err-decode_inner_box.ensures.part honest) in
    subst (λ (codecs : List ArrayCodec). DecodesPart (coded (with_array_codecs codecs rest) elements shape) stored (in_box region) (Err e)) whole
    (subst (λ (chain : Chain). DecodesPart (coded chain elements shape) stored (in_box region) (Err e)) (sym (with_more first last rest))
    (boxes_unread first chain elements shape stored region place.shape.items moved e box c.in-Ok.ensures read))

pub returns-clause-given : goal.returns-clause-given
returns-clause-given g c = λ honest.
    let D = g.D.BytesPartialDecoderTraits in
    let rest = g.A.ArrayToBytesCodecTraits.meaning c.args.chain.rest.now in
    let first = codecs_of c.split_boxed.result.0.now in
    let last = codecs_of c.split_boxed.result.1.now in
    let chain = with_array_codecs last rest in
    let type = (elements_of c.args.part.elements.now).type in
    let shape = c.args.part.shape.now in
    let region = region_of c.args.part.subset.now in
    let place = c.in-Ok.place in
    let moved = region_of place.subset in
    let stored = D.contents c.args.source.now in
    let old = D.given_bytes c.args.source.now in
    let new = D.given_bytes c.decode_inner_box.new.source in
    let box : IsBoxIn shape region = record { dimensions = c.args.part.subset.now.same; inside = c.args.part.inside } in
    let whole = sym (ap codecs_of (sym c.split_boxed.ensures) ∙ map-append codec_of c.split_boxed.result.0.now c.split_boxed.result.1.now) in
    let most = ap (λ es. most_read chain type es stored (in_box moved)) c.as_slice.ensures.value ∙ boxes_most first last rest type shape stored region place.shape.items moved c.requires.any_order box c.in-Ok.ensures in
    subst (λ (codecs : List ArrayCodec). new ≤ old + most_read (with_array_codecs codecs rest) type shape stored (in_box region)) whole
    (subst (λ n. new ≤ old + n) most (c.in-Err-decode_inner_box.ensures.given honest))
