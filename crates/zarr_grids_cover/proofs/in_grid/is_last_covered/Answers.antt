use Rattle.std.proofs.Common.{◌<◌, length, arith}
use Rattle.zarr_grids_boxes.proofs.Dimensions.{positive_at}
use Rattle.zarr_grids_cover.specs.InGrid.{is_place_covered}
use Rattle.zarr_grids_cover.proofs.NumbersInGrid.{last-step, last-none, last-end}
use Rattle.zarr_grids_cover.proofs.in_grid.is_last_covered.Goals as goal

pub overflow_sub-last : goal.overflow_sub-last
overflow_sub-last c = let h : c.loop-k.k < length c.args.shape.now = omega arith in omega (arith, positive_at _ _ h c.requires.some)

pub returns-then-not-is_place_covered : goal.returns-then-not-is_place_covered
returns-then-not-is_place_covered c = last-none is_place_covered _ c.args.start.now c.args.shape.now _ c.index-grid-k.result _ c.loop-k-test.true c.requires.rank c.requires.same c.index-grid-k.is (cc) c.loop-k.invariant

pub loop-k-preserved : goal.loop-k-preserved
loop-k-preserved c = last-step is_place_covered _ c.args.start.now c.args.shape.now _ c.index-grid-k.result _ c.loop-k-test.true c.requires.rank c.requires.same c.index-grid-k.is (cc) c.loop-k.invariant

pub returns : goal.returns
returns c = last-end is_place_covered _ c.args.start.now c.args.shape.now _ _ c.loop-k-test.false c.requires.rank c.requires.same c.loop-k.invariant
