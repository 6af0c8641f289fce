use Rattle.std.proofs.Common.{◌+◌, ◌<◌, ◌^◌, length, arith}
use Rattle.zarr_grids_boxes.proofs.Dimensions.{positive-drop_all}
use Rattle.zarr_grids_boxes.proofs.Numbers.{ravel_more, index_positive, front_below}
use Rattle.zarr_grids_boxes.proofs.ravel.ravel_below.Goals as goal

pub returns-in-None : goal.returns-in-None
returns-in-None c =
    let is = c.args.indices.now in
    let es = c.args.shape.now in
    let k = c.loop-k.k in
    let same = c.requires.same in
    let a : k < length is = omega arith in
    let q = positive-drop_all es (k + 1) (omega arith) (index_positive is es c.requires) in
    λ h. c.in-None.ensures (front_below _ _ _ _ (2 ^ 64) q (ravel_more is es k c.loop-k.number _ a c.loop-k-test.true c.loop-k.invariant.so_far) h)

pub loop-k-preserved : goal.loop-k-preserved
loop-k-preserved c =
    let is = c.args.indices.now in
    let es = c.args.shape.now in
    let k = c.loop-k.k in
    let same = c.requires.same in
    let a : k < length is = omega arith in
    let e = c.in-Some.ensures in
    record { small = omega arith; so_far = rw e.1 (ravel_more is es k c.loop-k.number _ a c.loop-k-test.true c.loop-k.invariant.so_far) }
