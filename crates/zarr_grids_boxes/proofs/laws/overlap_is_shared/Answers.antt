use Rattle.zarr_grids_boxes.proofs.Lawful.{overlap_shared}
use Rattle.zarr_grids_boxes.proofs.laws.overlap_is_shared.Goals as goal

pub returns : goal.returns
returns c = λ a b place i j l. overlap_shared a.start a.shape b.start b.shape place i j l
