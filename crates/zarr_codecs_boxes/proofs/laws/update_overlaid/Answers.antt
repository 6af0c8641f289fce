use Rattle.zarr_codecs_boxes.proofs.Moved.{update_overlaid}
use Rattle.zarr_codecs_boxes.proofs.laws.update_overlaid.Goals as goal

pub returns : goal.returns
returns c = update_overlaid
