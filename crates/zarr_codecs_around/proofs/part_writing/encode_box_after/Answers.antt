use Rattle.std.proofs.Common.{rules, ◌≡◌, ◌<◌, ◌^◌, ◌∙◌, List, ap, arith, refl, sym, subst, true, Err}
use Rattle.std.specs.Prelude.{OnOk}
use Rattle.std.proofs.lemmas.List.{map-append}
use Rattle.zarr_grids_boxes.specs.Boxes.{product}
use Rattle.zarr_grids_boxes.specs.Subsets.{region_of}
use Rattle.zarr_codecs_meaning.specs.Chains.{ArrayCodec, Chain}
use Rattle.zarr_codecs_meaning.specs.Fits.{fits}
use Rattle.zarr_codecs_meaning.specs.Partial.{encodes_in_part}
use Rattle.zarr_codecs_meaning.specs.Types.{Cell}
use Rattle.zarr_codecs_arrays.specs.Views.{elements_of, payload_of}
use Rattle.zarr_codecs_array_to_array.specs.Views.{codec_of}
use Rattle.zarr_codecs_traits.specs.Indexers.{in_box, shape_has}
use Rattle.zarr_codecs_traits.specs.Arrays.{coded, update_of}
use Rattle.zarr_codecs_traits.specs.PartWriting.{IsEncodedInto}
use Rattle.zarr_codecs_boxes.specs.Updates.{IsBoxIn}
use Rattle.zarr_codecs_around.specs.Parts.{WritesPart, source_write}
use Rattle.zarr_codecs_around.specs.Views.{codecs_of, with_array_codecs}
use Rattle.zarr_codecs_around.proofs.AllArrayCodecs.{with_more}
use Rattle.zarr_codecs_around.proofs.MovedBoxes.{boxes_writes, boxes_written, partly_split, turned_inside, turned_places, unturned_into, unturned_source}
use Rattle.zarr_codecs_around.proofs.WritingAfter.{on_written, unread_writes}
use Rattle.zarr_codecs_around.proofs.part_writing.encode_box_after.Goals as goal

pub invariant_of-inner : goal.invariant_of-inner
invariant_of-inner g c =
    let first = codecs_of c.split_boxed.result.0.now in
    let elements = elements_of c.args.part.elements.now in
    let shape = c.args.part.shape.now in
    let region = region_of c.args.part.subset.now in
    let place = c.in-Ok.moved.place in
    let moved = region_of place.subset in
    let box : IsBoxIn shape region = record { dimensions = c.args.part.subset.now.same; inside = c.args.part.inside } in
    record { inside = subst (λ es. shape_has es moved ≡ true) (sym c.as_slice.ensures.value) (turned_inside first elements shape region (payload_of c.args.bytes) place.shape.items moved (payload_of c.in-Ok.moved.bytes) box c.in-Ok.ensures).inside }

pub encode_inner_box-requires : goal.encode_inner_box-requires
encode_inner_box-requires g c =
    let first = codecs_of c.split_boxed.result.0.now in
    let elements = elements_of c.args.part.elements.now in
    let shape = c.args.part.shape.now in
    let region = region_of c.args.part.subset.now in
    let place = c.in-Ok.moved.place in
    let many : product c.as_slice.result.now ≡ product shape =
    ap product c.as_slice.ensures.value ∙ turned_places first elements shape region (payload_of c.args.bytes) place.shape.items (region_of place.subset) (payload_of c.in-Ok.moved.bytes) c.in-Ok.ensures in
    let small : product shape < 2 ^ 63 = c.requires.small in
    let few : product c.as_slice.result.now < 2 ^ 63 = omega (arith, many, small) in
    search (rules, few)

pub returns-in-Err-clause-writes : goal.returns-in-Err-clause-writes
returns-in-Err-clause-writes g c = λ honest partly.
    let rest = g.A.ArrayToBytesCodecTraits.meaning c.args.chain.rest.now in
    let first = codecs_of c.split_boxed.result.0.now in
    let last = codecs_of c.split_boxed.result.1.now in
    let elements = elements_of c.args.part.elements.now in
    let shape = c.args.part.shape.now in
    let region = region_of c.args.part.subset.now in
    let payload = payload_of c.args.bytes in
    let E = g.E.BytesPartialDecoderTraits in
    let old = E.contents c.args.source.now in
    let e = c.in-Err.error in
    let source = source_write old (g.E.BytesPartialEncoderTraits.writes_ranges c.args.source.now) (E.given_bytes c.args.source.now) (E.given_bytes c.args.source.now) in
    let box : IsBoxIn shape region = record { dimensions = c.args.part.subset.now.same; inside = c.args.part.inside } in
    let whole = sym (ap codecs_of (sym c.split_boxed.ensures) ∙ map-append codec_of c.split_boxed.result.0.now c.split_boxed.result.1.now) in
    let all = subst (λ (codecs : List ArrayCodec). fits (with_array_codecs codecs rest) elements.type shape ≡ true) (sym whole) c.requires.fits in
    let fit = subst (λ (chain : Chain). fits chain elements.type shape ≡ true) (with_more first last rest) all in
    subst (λ (codecs : List ArrayCodec). WritesPart {A = Unit {0}} (coded (with_array_codecs codecs rest) elements shape) (update_of (in_box region) payload old) source (Err e)) whole
    (subst (λ (chain : Chain). WritesPart {A = Unit {0}} (coded chain elements shape) (update_of (in_box region) payload old) source (Err e)) (sym (with_more first last rest))
    (unread_writes (coded (with_array_codecs first (with_array_codecs last rest)) elements shape) (update_of (in_box region) payload old) source e (unturned_into first (with_array_codecs last rest) elements shape region payload old e box fit c.in-Err.ensures) refl))

pub returns-in-Err-clause-refused : goal.returns-in-Err-clause-refused
returns-in-Err-clause-refused g c =
    sym (unturned_source (Unit {0}) (codecs_of c.split_boxed.result.0.now) (elements_of c.args.part.elements.now) c.args.part.shape.now (region_of c.args.part.subset.now) (payload_of c.args.bytes) c.in-Err.error c.in-Err.ensures (g.E.BytesPartialDecoderTraits.refused_calls c.args.source.now))

pub returns-clause-ok : goal.returns-clause-ok
returns-clause-ok g c = λ honest.
    let E = g.E.BytesPartialDecoderTraits in
    let rest = g.A.ArrayToBytesCodecTraits.meaning c.args.chain.rest.now in
    let exact = g.A.ArrayToBytesCodecTraits.is_function c.args.chain.rest.now in
    let first = codecs_of c.split_boxed.result.0.now in
    let last = codecs_of c.split_boxed.result.1.now in
    let chain = with_array_codecs last rest in
    let elements = elements_of c.args.part.elements.now in
    let shape = c.args.part.shape.now in
    let region = region_of c.args.part.subset.now in
    let payload = payload_of c.args.bytes in
    let place = c.in-Ok.moved.place in
    let made = payload_of c.in-Ok.moved.bytes in
    let moved = region_of place.subset in
    let old = E.contents c.args.source.now in
    let new = E.contents c.encode_inner_box.new.source in
    let r = c.encode_inner_box.result in
    let box : IsBoxIn shape region = record { dimensions = c.args.part.subset.now.same; inside = c.args.part.inside } in
    let whole = sym (ap codecs_of (sym c.split_boxed.ensures) ∙ map-append codec_of c.split_boxed.result.0.now c.split_boxed.result.1.now) in
    let found = subst (λ es. OnOk r ((cells : List Cell) × IsEncodedInto (coded chain elements es) exact (update_of (in_box moved) made old) cells new)) c.as_slice.ensures.value (c.encode_inner_box.ensures.ok honest) in
    subst (λ (codecs : List ArrayCodec). OnOk r ((cells : List Cell) × IsEncodedInto (coded (with_array_codecs codecs rest) elements shape) exact (update_of (in_box region) payload old) cells new)) whole
    (subst (λ (chain : Chain). OnOk r ((cells : List Cell) × IsEncodedInto (coded chain elements shape) exact (update_of (in_box region) payload old) cells new)) (sym (with_more first last rest))
    (on_written r ((cells : List Cell) × IsEncodedInto (coded chain elements place.shape.items) exact (update_of (in_box moved) made old) cells new)
    ((cells : List Cell) × IsEncodedInto (coded (with_array_codecs first chain) elements shape) exact (update_of (in_box region) payload old) cells new)
    (boxes_written first chain exact elements shape region payload place.shape.items moved made old new box c.in-Ok.ensures) found))

pub returns-clause-writes : goal.returns-clause-writes
returns-clause-writes g c = λ honest partly.
    let rest = g.A.ArrayToBytesCodecTraits.meaning c.args.chain.rest.now in
    let first = codecs_of c.split_boxed.result.0.now in
    let last = codecs_of c.split_boxed.result.1.now in
    let chain = with_array_codecs last rest in
    let elements = elements_of c.args.part.elements.now in
    let shape = c.args.part.shape.now in
    let region = region_of c.args.part.subset.now in
    let payload = payload_of c.args.bytes in
    let place = c.in-Ok.moved.place in
    let made = payload_of c.in-Ok.moved.bytes in
    let moved = region_of place.subset in
    let E = g.E.BytesPartialDecoderTraits in
    let old = E.contents c.args.source.now in
    let r = c.encode_inner_box.result in
    let source = source_write (E.contents c.encode_inner_box.new.source) (g.E.BytesPartialEncoderTraits.writes_ranges c.args.source.now) (E.given_bytes c.args.source.now) (E.given_bytes c.encode_inner_box.new.source) in
    let box : IsBoxIn shape region = record { dimensions = c.args.part.subset.now.same; inside = c.args.part.inside } in
    let whole = sym (ap codecs_of (sym c.split_boxed.ensures) ∙ map-append codec_of c.split_boxed.result.0.now c.split_boxed.result.1.now) in
    let all = subst (λ (codecs : List ArrayCodec). encodes_in_part (with_array_codecs codecs rest) ≡ encodes_in_part rest) (sym whole) partly in
    let two = partly_split first last rest all in
    let each : encodes_in_part (with_array_codecs first chain) ≡ encodes_in_part chain = ap encodes_in_part (sym (with_more first last rest)) ∙ two.0 in
    let found = subst (λ es. WritesPart (coded chain elements es) (update_of (in_box moved) made old) source r) c.as_slice.ensures.value (c.encode_inner_box.ensures.writes honest two.1) in
    subst (λ (codecs : List ArrayCodec). WritesPart (coded (with_array_codecs codecs rest) elements shape) (update_of (in_box region) payload old) source r) whole
    (subst (λ (chain : Chain). WritesPart (coded chain elements shape) (update_of (in_box region) payload old) source r) (sym (with_more first last rest))
    (boxes_writes first chain elements shape region payload place.shape.items moved made old source r c.args.part.elements.now.fills box c.in-Ok.ensures each found))
