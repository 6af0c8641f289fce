use Rattle.std.proofs.Common.{◌<◌, refl, arith}
use Rattle.zarr_grids_boxes.specs.Boxes.{product}
use Rattle.zarr_grids_boxes.proofs.Dimensions.{product_zero_at, positive_from_all}
use Rattle.zarr_grids_boxes.proofs.walk.has_no_place.Goals as goal

pub returns-then-size-eq0 : goal.returns-then-size-eq0
returns-then-size-eq0 c = (λ _. product_zero_at _ _ c.loop-size-test.true c.if-size-eq0.true, λ _. refl)

pub returns : goal.returns
returns c =
    let p : 0 < product c.args.shape.now = positive_from_all _ (λ k h. c.loop-size.invariant k (omega arith)) in
    (λ h. absurd (cc), λ z. absurd (omega arith))
