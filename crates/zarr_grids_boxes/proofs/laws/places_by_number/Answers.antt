use Rattle.zarr_grids_boxes.proofs.Lawful.{place_by_number}
use Rattle.zarr_grids_boxes.proofs.laws.places_by_number.Goals as goal

pub returns : goal.returns
returns c = λ box n place i. place_by_number box.start box.shape place n i
