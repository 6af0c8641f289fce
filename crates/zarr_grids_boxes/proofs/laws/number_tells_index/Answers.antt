use Rattle.zarr_grids_boxes.proofs.Dimensions.{ravel_below}
use Rattle.zarr_grids_boxes.proofs.Numbers.{unravel-ravel}
use Rattle.zarr_grids_boxes.proofs.laws.number_tells_index.Goals as goal

pub returns : goal.returns
returns c = λ index shape b. (ravel_below index shape b, unravel-ravel index shape b)
