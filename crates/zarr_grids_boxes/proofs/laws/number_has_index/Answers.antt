use Rattle.zarr_grids_boxes.proofs.Numbers.{unravel-index, ravel-unravel}
use Rattle.zarr_grids_boxes.proofs.laws.number_has_index.Goals as goal

pub returns : goal.returns
returns c = λ shape n h. (unravel-index shape n h, ravel-unravel shape n h)
