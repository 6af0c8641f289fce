use Rattle.std.proofs.Common.{◌≡◌, ◌+◌, ◌-◌, ◌%◌, ◌<◌, length, get_or, arith, length-set}
use Rattle.zarr_grids_boxes.proofs.Dimensions.{positive_at}
use Rattle.zarr_grids_boxes.proofs.Numbers.{unravel_back, rest_back}
use Rattle.zarr_grids_boxes.proofs.ravel.unravel_index.Goals as goal

pub nonzero_rem-rest : goal.nonzero_rem-rest
nonzero_rem-rest c = let p = positive_at c.args.shape.now (c.loop-k.k - 1) (omega arith) c.loop-k.invariant.positive in omega arith

pub nonzero_div-rest : goal.nonzero_div-rest
nonzero_div-rest c = let p = positive_at c.args.shape.now (c.loop-k.k - 1) (omega arith) c.loop-k.invariant.positive in omega arith

pub loop-k-preserved : goal.loop-k-preserved
loop-k-preserved c =
    let es = c.args.shape.now in
    let xs = c.loop-k.indices.items in
    let j = c.loop-k.k - 1 in
    let i = c.loop-k.invariant in
    let len = i.len in
    let e : c.loop-k.k ≡ c.loop-k.k - 1 + 1 = omega arith in
    let a : c.loop-k.k - 1 < length es = omega arith in
    let b : c.loop-k.k - 1 < length xs = omega arith in
    record {
      positive = i.positive;
      len = omega (arith, length-set xs j (c.loop-k.rest % get_or es j 0));
      rest = rest_back es c.args.index c.loop-k.rest j c.loop-k.k e a i.rest;
      written = unravel_back es xs c.args.index c.loop-k.rest j c.loop-k.k e a b i.positive i.rest i.written;
    }
