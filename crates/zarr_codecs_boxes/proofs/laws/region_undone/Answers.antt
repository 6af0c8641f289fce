use Rattle.zarr_codecs_boxes.proofs.Moved.{region_undone}
use Rattle.zarr_codecs_boxes.proofs.laws.region_undone.Goals as goal

pub returns : goal.returns
returns c = region_undone
