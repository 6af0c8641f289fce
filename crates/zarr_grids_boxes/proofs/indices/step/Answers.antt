use Rattle.std.proofs.Common.{◌+◌, ◌-◌, length, get_or, arith}
use Rattle.std.proofs.lemmas.List.{get_or_read}
use Rattle.zarr_grids_boxes.proofs.Steps.{along, in_box_same, in_box-set, raised_here, back_here, all_back, product-past}
use Rattle.zarr_grids_boxes.proofs.indices.step.Goals as goal

pub loop-k-init : goal.loop-k-init
loop-k-init c =
    let s = in_box_same c.args.start.now c.args.shape.now c.args.place.now.items c.requires.within in
    let t = s.0 in
    let e = product-past c.args.shape.now (length c.args.start.now) (omega arith) in
    record { within = c.requires.within; number = omega arith }

pub index-at-requires : goal.index-at-requires
index-at-requires c = let a = along c.args.start.now c.args.shape.now c.loop-k.place.items (c.loop-k.k - 1) c.loop-k.invariant.within (omega arith) in omega (arith, c.loop-k.place.ok.0)

pub overflow_sub-at : goal.overflow_sub-at
overflow_sub-at c =
    let a = along c.args.start.now c.args.shape.now c.loop-k.place.items (c.loop-k.k - 1) c.loop-k.invariant.within (omega arith) in
    let v = get_or_read c.loop-k.place.items _ _ a.in_place c.index-at.ensures 0 in omega arith

pub bounds-shape-k : goal.bounds-shape-k
bounds-shape-k c = let a = along c.args.start.now c.args.shape.now c.loop-k.place.items (c.loop-k.k - 1) c.loop-k.invariant.within (omega arith) in a.in_shape

pub overflow_sub-shape : goal.overflow_sub-shape
overflow_sub-shape c = let a = along c.args.start.now c.args.shape.now c.loop-k.place.items (c.loop-k.k - 1) c.loop-k.invariant.within (omega arith) in omega arith

pub index_mut-requires : goal.index_mut-requires
index_mut-requires c = let a = along c.args.start.now c.args.shape.now c.loop-k.place.items (c.loop-k.k - 1) c.loop-k.invariant.within (omega arith) in omega (arith, c.loop-k.place.ok.0)

pub index_mut-requires-in-loop-k : goal.index_mut-requires-in-loop-k
index_mut-requires-in-loop-k c = let a = along c.args.start.now c.args.shape.now c.loop-k.place.items (c.loop-k.k - 1) c.loop-k.invariant.within (omega arith) in omega (arith, c.loop-k.place.ok.0)

pub returns-then-at-start-clause-within : goal.returns-then-at-start-clause-within
returns-then-at-start-clause-within c =
    let a = along c.args.start.now c.args.shape.now c.loop-k.place.items (c.loop-k.k - 1) c.loop-k.invariant.within (omega arith) in
    let v = get_or_read c.loop-k.place.items _ _ a.in_place c.index-at.ensures 0 in
    in_box-set c.args.start.now c.args.shape.now c.loop-k.place.items (c.loop-k.k - 1) (c.index-at.result.now + 1) c.loop-k.invariant.within (omega arith) (omega arith)

pub returns-then-at-start-clause-next : goal.returns-then-at-start-clause-next
returns-then-at-start-clause-next c =
    let a = along c.args.start.now c.args.shape.now c.loop-k.place.items (c.loop-k.k - 1) c.loop-k.invariant.within (omega arith) in
    let v = get_or_read c.loop-k.place.items _ _ a.in_place c.index-at.ensures 0 in
    λ t. raised_here c.args.start.now c.args.shape.now c.loop-k.place.items (c.loop-k.k - 1) c.loop-k.k c.index-at.result.now _ c.loop-k.invariant.within a.in_start (omega arith) v c.loop-k.invariant.number

pub loop-k-preserved : goal.loop-k-preserved
loop-k-preserved c =
    let a = along c.args.start.now c.args.shape.now c.loop-k.place.items (c.loop-k.k - 1) c.loop-k.invariant.within (omega arith) in
    let v = get_or_read c.loop-k.place.items _ _ a.in_place c.index-at.ensures 0 in
    record {
      within = in_box-set c.args.start.now c.args.shape.now c.loop-k.place.items (c.loop-k.k - 1) (get_or c.args.start.now (c.loop-k.k - 1) 0) c.loop-k.invariant.within (omega arith) (omega arith);
      number = back_here c.args.start.now c.args.shape.now c.loop-k.place.items (c.loop-k.k - 1) c.loop-k.k _ c.loop-k.invariant.within a.in_start (omega arith) (omega arith) c.loop-k.invariant.number;
    }

pub returns-clause-last : goal.returns-clause-last
returns-clause-last c = λ t. all_back c.args.start.now c.args.shape.now c.args.place.now.items c.loop-k.k _ c.requires.within (omega arith) c.loop-k.invariant.number
