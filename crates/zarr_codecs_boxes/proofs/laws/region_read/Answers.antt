use Rattle.zarr_codecs_boxes.proofs.Moved.{region_read}
use Rattle.zarr_codecs_boxes.proofs.laws.region_read.Goals as goal

pub returns : goal.returns
returns c = region_read
