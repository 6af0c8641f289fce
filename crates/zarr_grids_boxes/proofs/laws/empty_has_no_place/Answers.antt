use Rattle.zarr_grids_boxes.proofs.Lawful.{empty_has_none}
use Rattle.zarr_grids_boxes.proofs.laws.empty_has_no_place.Goals as goal

pub returns : goal.returns
returns c = λ box i. empty_has_none box.start box.shape i
