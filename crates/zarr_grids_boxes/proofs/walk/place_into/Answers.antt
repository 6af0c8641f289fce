use Rattle.std.proofs.Common.{◌<◌, drop, length, arith}
use Rattle.std.proofs.lemmas.Nat.{mod_below}
use Rattle.zarr_grids_boxes.specs.Boxes.{product}
use Rattle.zarr_grids_boxes.proofs.Dimensions.{inner_more, digit_below, positive-drop, place_at-drop, written_more}
use Rattle.zarr_grids_boxes.proofs.walk.place_into.Goals as goal

pub overflow_add-place : goal.overflow_add-place
overflow_add-place c =
    let h : c.loop-k.k < length c.args.shape.now = omega arith in
    let p : 0 < product (drop c.loop-k.k c.args.shape.now) = omega arith in
    let i = inner_more _ _ _ h p c.loop-k.invariant.inner in
    let d = digit_below _ _ _ h c.loop-k.invariant.rest in
    let f = c.requires.fit c.loop-k.k c.loop-k-test.true in
    rw i (omega arith)

pub loop-k-preserved : goal.loop-k-preserved
loop-k-preserved c =
    let h : c.loop-k.k < length c.args.shape.now = omega arith in
    let p : 0 < product (drop c.loop-k.k c.args.shape.now) = omega arith in
    let i = inner_more _ _ _ h p c.loop-k.invariant.inner in
    let q = (positive-drop _ _ h p).1 in
    let r : c.loop-k.k < length c.loop-k.place = omega arith in
    record {
      inner = i;
      rest = rw i (mod_below _ _ q);
      written = rw i (written_more _ _ _ _ _ r (rw (← place_at-drop c.args.start.now c.args.shape.now c.loop-k.k c.loop-k.rest c.loop-k-test.true h) c.loop-k.invariant.written));
    }
