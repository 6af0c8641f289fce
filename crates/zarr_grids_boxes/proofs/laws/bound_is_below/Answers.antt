use Rattle.zarr_grids_boxes.proofs.Lawful.{bound_below}
use Rattle.zarr_grids_boxes.proofs.laws.bound_is_below.Goals as goal

pub returns : goal.returns
returns c = λ box end place i l. bound_below box.start box.shape end place i l
