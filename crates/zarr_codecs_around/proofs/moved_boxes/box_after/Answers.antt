use Rattle.std.proofs.Common.{◌≡◌, ◌+◌, List, [], ◌∷◌, drop, ap, sym, subst, refl}
use Rattle.std.proofs.lemmas.List.{drop_all}
use Rattle.zarr_grids_boxes.specs.Subsets.{region_of}
use Rattle.zarr_codecs_meaning.specs.Chains.{ArrayCodec}
use Rattle.zarr_codecs_array_to_array.specs.Views.{codec_of}
use Rattle.zarr_codecs_around.specs.MovedBoxes.{IsBoxAfter}
use Rattle.zarr_codecs_around.specs.Views.{codecs_of}
use Rattle.zarr_codecs_around.proofs.Left.{left_at}
use Rattle.zarr_codecs_around.proofs.MovedBoxes.{IsBoxLeft, box_all_left, box_less, box_refused}
use Rattle.zarr_codecs_around.proofs.moved_boxes.box_after.Goals as goal

pub loop-codec-init : goal.loop-codec-init
loop-codec-init c =
    let place = c.in_ok-place.place in
    box_all_left (codecs_of c.args.codecs.now) c.args.part.shape.now (region_of c.args.part.subset.now) place.shape.items (region_of place.subset) c.in_ok-place.ensures.shape c.in_ok-place.ensures.region

pub loop-codec-preserved : goal.loop-codec-preserved
loop-codec-preserved c =
    let i = c.loop-codec.codec-index in
    let codec = codec_of c.codec-item.result in
    let others = codecs_of (drop (i + 1) c.args.codecs.now) in
    let whole = codecs_of c.args.codecs.now in
    let shape = c.args.part.shape.now in
    let region = region_of c.args.part.subset.now in
    let now = c.loop-codec.place.shape.items in
    let place = region_of c.loop-codec.place.subset in
    let next = c.in-Ok.next in
    let left : codecs_of (drop i c.args.codecs.now) ≡ codec ∷ others = ap codecs_of (left_at c.args.codecs.now c.codec-item.result i (i + 1) refl c.loop-codec-test.true c.codec-item.is) in
    box_less codec others whole shape region now place next.shape.items (region_of next.subset) (subst (λ (codecs : List ArrayCodec). IsBoxLeft codecs whole shape region now place) left c.loop-codec.invariant) c.in-Ok.ensures

pub returns-in-Err : goal.returns-in-Err
returns-in-Err c =
    let i = c.loop-codec.codec-index in
    let codec = codec_of c.codec-item.result in
    let others = codecs_of (drop (i + 1) c.args.codecs.now) in
    let whole = codecs_of c.args.codecs.now in
    let shape = c.args.part.shape.now in
    let region = region_of c.args.part.subset.now in
    let now = c.loop-codec.place.shape.items in
    let place = region_of c.loop-codec.place.subset in
    let left : codecs_of (drop i c.args.codecs.now) ≡ codec ∷ others = ap codecs_of (left_at c.args.codecs.now c.codec-item.result i (i + 1) refl c.loop-codec-test.true c.codec-item.is) in
    box_refused codec others whole shape region now place c.in-Err.error (subst (λ (codecs : List ArrayCodec). IsBoxLeft codecs whole shape region now place) left c.loop-codec.invariant).fit c.in-Err.ensures

pub returns : goal.returns
returns c =
    let now = c.loop-codec.place.shape.items in
    let place = region_of c.loop-codec.place.subset in
    let none : codecs_of (drop c.loop-codec.codec-index c.args.codecs.now) ≡ [] = ap codecs_of (drop_all c.loop-codec.codec-index c.args.codecs.now c.loop-codec-test.false) in
    c.loop-codec.invariant.moves now place (subst (λ (codecs : List ArrayCodec). IsBoxAfter codecs now place now place) (sym none) (refl, refl))
