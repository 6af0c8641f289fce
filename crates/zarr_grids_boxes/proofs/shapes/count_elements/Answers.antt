use Rattle.std.proofs.Common.{arith}
use Rattle.std.proofs.lemmas.Grind.{common_steps}
use Rattle.zarr_grids_boxes.proofs.Dimensions.{so_far_more}
use Rattle.zarr_grids_boxes.proofs.shapes.count_elements.Goals as goal

pub loop-size-preserved : goal.loop-size-preserved
loop-size-preserved c = let s = so_far_more _ _ _ c.loop-size-test.true c.loop-size.invariant.so_far in record { positive = c.loop-size.invariant.positive; small = grind (arith, common_steps); so_far = grind (arith, common_steps) }
