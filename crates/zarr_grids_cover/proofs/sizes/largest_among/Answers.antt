use Rattle.std.proofs.Common.{arith}
use Rattle.zarr_grids_cover.proofs.LargestEdges.{largest-step, largest-end}
use Rattle.zarr_grids_cover.proofs.sizes.largest_among.Goals as goal

pub loop-j-preserved : goal.loop-j-preserved
loop-j-preserved c = largest-step c.args.repeats.now c.loop-j.j c.args.first c.args.last c.loop-j.next c.loop-j.largest _ (record { edge = 0; count = 0 }) c.loop-j-test.true c.requires.counted c.loop-j.invariant.0 c.requires.order
    (let e = c.max-largest.ensures in let f = c.edge_among.ensures in omega arith) c.loop-j.invariant.1

pub returns-clause-largest : goal.returns-clause-largest
returns-clause-largest c = (largest-end c.args.repeats.now c.loop-j.j c.args.first c.args.last c.loop-j.next c.loop-j.largest c.loop-j-test.false c.loop-j.invariant.0 c.requires.order c.requires.below c.loop-j.invariant.1).0

pub returns-clause-among : goal.returns-clause-among
returns-clause-among c = (largest-end c.args.repeats.now c.loop-j.j c.args.first c.args.last c.loop-j.next c.loop-j.largest c.loop-j-test.false c.loop-j.invariant.0 c.requires.order c.requires.below c.loop-j.invariant.1).1
