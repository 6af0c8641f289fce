use Rattle.std.proofs.Common.{◌<◌, length, drop, arith}
use Rattle.std.proofs.lemmas.Nat.{mod_below}
use Rattle.zarr_grids_boxes.specs.Boxes.{product}
use Rattle.zarr_grids_boxes.proofs.Building.{ends_at_most}
use Rattle.zarr_grids_boxes.proofs.Dimensions.{inner_more, positive-drop}
use Rattle.zarr_grids_boxes.proofs.Walking.{number_fits, place_number_more, number_whole}
use Rattle.zarr_grids_boxes.proofs.linearised.number_at.Goals as goal

pub bounds-array_shape-k : goal.bounds-array_shape-k
bounds-array_shape-k c = let l = (ends_at_most c.args.start.now c.args.shape.now c.args.array_shape.now c.requires.same c.requires.within).0 in omega arith

pub overflow_mul-number : goal.overflow_mul-number
overflow_mul-number c =
    let f = number_fits c.args.start.now c.args.shape.now c.args.array_shape.now c.args.n c.loop-k.k c.loop-k.rest c.loop-k.number c.requires.same c.requires.within c.requires.small c.requires.below c.loop-k-test.true c.loop-k.invariant.number in
    omega arith

pub overflow_add-number : goal.overflow_add-number
overflow_add-number c =
    let f = number_fits c.args.start.now c.args.shape.now c.args.array_shape.now c.args.n c.loop-k.k c.loop-k.rest c.loop-k.number c.requires.same c.requires.within c.requires.small c.requires.below c.loop-k-test.true c.loop-k.invariant.number in
    let h : c.loop-k.k < length c.args.shape.now = omega arith in
    let p : 0 < product (drop c.loop-k.k c.args.shape.now) = omega arith in
    let i = inner_more _ _ _ h p c.loop-k.invariant.inner in
    rw i (omega arith)

pub overflow_add-number-in-loop-k : goal.overflow_add-number-in-loop-k
overflow_add-number-in-loop-k c =
    let f = number_fits c.args.start.now c.args.shape.now c.args.array_shape.now c.args.n c.loop-k.k c.loop-k.rest c.loop-k.number c.requires.same c.requires.within c.requires.small c.requires.below c.loop-k-test.true c.loop-k.invariant.number in
    let h : c.loop-k.k < length c.args.shape.now = omega arith in
    let p : 0 < product (drop c.loop-k.k c.args.shape.now) = omega arith in
    let i = inner_more _ _ _ h p c.loop-k.invariant.inner in
    rw i (omega arith)

pub loop-k-preserved : goal.loop-k-preserved
loop-k-preserved c =
    let ss = c.args.start.now in
    let es = c.args.shape.now in
    let ns = c.args.array_shape.now in
    let k = c.loop-k.k in
    let f = number_fits ss es ns c.args.n k c.loop-k.rest c.loop-k.number c.requires.same c.requires.within c.requires.small c.requires.below c.loop-k-test.true c.loop-k.invariant.number in
    let l = (ends_at_most ss es ns c.requires.same c.requires.within).0 in
    let h : k < length es = omega arith in
    let g : k < length ns = omega arith in
    let p : 0 < product (drop k es) = omega arith in
    let i = inner_more _ _ _ h p c.loop-k.invariant.inner in
    record {
      inner = i;
      rest = rw i (mod_below _ _ (positive-drop es k h p).1);
      small = rw i (omega arith);
      number = rw i (place_number_more ss es ns k c.loop-k.rest c.loop-k.number _ c.loop-k-test.true h g c.loop-k.invariant.number);
    }

pub returns : goal.returns
returns c =
    let ss = c.args.start.now in
    let es = c.args.shape.now in
    let ns = c.args.array_shape.now in
    let l = (ends_at_most ss es ns c.requires.same c.requires.within).0 in
    number_whole ss es ns c.loop-k.k c.loop-k.rest c.loop-k.number _ (omega arith) (omega arith) c.loop-k.invariant.number
