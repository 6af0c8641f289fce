use Rattle.std.proofs.Common.{◌<◌, length, arith}
use Rattle.zarr_grids_boxes.proofs.Dimensions.{positive_at}
use Rattle.zarr_grids_dimensions.proofs.boxes.last_place.Goals as goal

pub overflow_sub-shape : goal.overflow_sub-shape
overflow_sub-shape c = let h : c.loop-k.k < length c.args.shape.now = omega arith in omega (arith, positive_at _ _ h c.requires.some)
