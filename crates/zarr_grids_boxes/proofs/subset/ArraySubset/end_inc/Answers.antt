use Rattle.std.proofs.Common.{◌<◌, length, arith}
use Rattle.zarr_grids_boxes.proofs.Dimensions.{positive_at}
use Rattle.zarr_grids_boxes.proofs.subset.ArraySubset.end_inc.Goals as goal

pub overflow_sub-end_along : goal.overflow_sub-end_along
overflow_sub-end_along c =
    let s = c.args.self.now in
    let h : c.loop-k.k < length s.shape.items = omega arith in
    let p = positive_at s.shape.items c.loop-k.k h c.loop-k.invariant.positive in omega arith
