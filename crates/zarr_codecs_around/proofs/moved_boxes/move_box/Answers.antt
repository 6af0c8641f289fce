use Rattle.std.proofs.Common.{◌≡◌, ◌+◌, List, [], ◌∷◌, drop, ap, sym, subst, refl, Ok, Err}
use Rattle.std.proofs.lemmas.List.{drop_all}
use Rattle.zarr_grids_boxes.specs.Subsets.{region_of}
use Rattle.zarr_codecs_meaning.specs.Chains.{ArrayCodec}
use Rattle.zarr_codecs_arrays.specs.Views.{elements_of, payload_of}
use Rattle.zarr_codecs_array_to_array.specs.Views.{codec_of}
use Rattle.zarr_codecs_traits.specs.Outcomes.{EncodesArray}
use Rattle.zarr_codecs_boxes.specs.Updates.{IsBoxIn}
use Rattle.zarr_codecs_around.specs.MovedBoxes.{IsTurnedTo, box_payload}
use Rattle.zarr_codecs_around.specs.Views.{codecs_of}
use Rattle.zarr_codecs_around.proofs.Left.{left_at}
use Rattle.zarr_codecs_around.proofs.MovedBoxes.{IsTurnedLeft, turned_all_left, turned_less, turned_refused, turned_unboxed}
use Rattle.zarr_codecs_around.proofs.moved_boxes.move_box.Goals as goal

pub loop-codec-init : goal.loop-codec-init
loop-codec-init c =
    let place = c.in_ok-place.place in
    let shape = c.args.part.shape.now in
    let region = region_of c.args.part.subset.now in
    let box : IsBoxIn shape region = record { dimensions = c.args.part.subset.now.same; inside = c.args.part.inside } in
    turned_all_left (codecs_of c.args.codecs.now) (elements_of c.args.part.elements.now) shape region (payload_of c.args.bytes) place.shape.items (region_of place.subset) c.in_ok-place.ensures.shape c.in_ok-place.ensures.region box

pub loop-codec-preserved : goal.loop-codec-preserved
loop-codec-preserved c =
    let i = c.loop-codec.codec-index in
    let codec = codec_of c.codec-item.result in
    let others = codecs_of (drop (i + 1) c.args.codecs.now) in
    let whole = codecs_of c.args.codecs.now in
    let elements = elements_of c.args.part.elements.now in
    let shape = c.args.part.shape.now in
    let region = region_of c.args.part.subset.now in
    let payload = payload_of c.args.bytes in
    let now = c.loop-codec.place.shape.items in
    let place = region_of c.loop-codec.place.subset in
    let turned = payload_of c.loop-codec.turned in
    let next = c.in-Ok.next in
    let made = c.in-Ok-encode.made in
    let left : codecs_of (drop i c.args.codecs.now) ≡ codec ∷ others = ap codecs_of (left_at c.args.codecs.now c.codec-item.result i (i + 1) refl c.loop-codec-test.true c.codec-item.is) in
    let m = subst (λ es. EncodesArray codec elements es turned (Ok made)) c.shape.ensures c.in-Ok-encode.ensures in
    turned_less codec others whole elements shape region payload now place turned next.shape.items (region_of next.subset) (payload_of made) c.args.part.elements.now.fills
    (subst (λ (codecs : List ArrayCodec). IsTurnedLeft codecs whole elements shape region payload now place turned) left c.loop-codec.invariant) c.in-Ok.ensures m

pub returns-in-Err : goal.returns-in-Err
returns-in-Err c =
    let i = c.loop-codec.codec-index in
    let codec = codec_of c.codec-item.result in
    let others = codecs_of (drop (i + 1) c.args.codecs.now) in
    let whole = codecs_of c.args.codecs.now in
    let elements = elements_of c.args.part.elements.now in
    let shape = c.args.part.shape.now in
    let region = region_of c.args.part.subset.now in
    let payload = payload_of c.args.bytes in
    let now = c.loop-codec.place.shape.items in
    let place = region_of c.loop-codec.place.subset in
    let turned = payload_of c.loop-codec.turned in
    let left : codecs_of (drop i c.args.codecs.now) ≡ codec ∷ others = ap codecs_of (left_at c.args.codecs.now c.codec-item.result i (i + 1) refl c.loop-codec-test.true c.codec-item.is) in
    turned_unboxed codec others whole elements shape region payload now place c.in-Err.error (subst (λ (codecs : List ArrayCodec). IsTurnedLeft codecs whole elements shape region payload now place turned) left c.loop-codec.invariant).fit c.in-Err.ensures

pub returns-in-Err-encode : goal.returns-in-Err-encode
returns-in-Err-encode c =
    let i = c.loop-codec.codec-index in
    let codec = codec_of c.codec-item.result in
    let others = codecs_of (drop (i + 1) c.args.codecs.now) in
    let whole = codecs_of c.args.codecs.now in
    let elements = elements_of c.args.part.elements.now in
    let shape = c.args.part.shape.now in
    let region = region_of c.args.part.subset.now in
    let payload = payload_of c.args.bytes in
    let now = c.loop-codec.place.shape.items in
    let place = region_of c.loop-codec.place.subset in
    let turned = payload_of c.loop-codec.turned in
    let next = c.in-Ok.next in
    let e = c.in-Err-encode.error in
    let left : codecs_of (drop i c.args.codecs.now) ≡ codec ∷ others = ap codecs_of (left_at c.args.codecs.now c.codec-item.result i (i + 1) refl c.loop-codec-test.true c.codec-item.is) in
    let why = subst (λ es. EncodesArray codec elements es turned (Err e)) c.shape.ensures c.in-Err-encode.ensures in
    turned_refused codec others whole elements shape region payload now place turned next.shape.items (region_of next.subset) e
    (subst (λ (codecs : List ArrayCodec). IsTurnedLeft codecs whole elements shape region payload now place turned) left c.loop-codec.invariant) c.in-Ok.ensures why

pub returns : goal.returns
returns c =
    let elements = elements_of c.args.part.elements.now in
    let now = c.loop-codec.place.shape.items in
    let place = region_of c.loop-codec.place.subset in
    let turned = payload_of c.loop-codec.turned in
    let none : codecs_of (drop c.loop-codec.codec-index c.args.codecs.now) ≡ [] = ap codecs_of (drop_all c.loop-codec.codec-index c.args.codecs.now c.loop-codec-test.false) in
    c.loop-codec.invariant.turns now place turned (subst (λ (codecs : List ArrayCodec). IsTurnedTo codecs elements (box_payload now place turned) (box_payload now place turned)) (sym none) (refl, refl, refl))
