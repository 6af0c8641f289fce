use Rattle.zarr_codecs_boxes.proofs.Moved.{update_encoded}
use Rattle.zarr_codecs_boxes.proofs.laws.update_encoded.Goals as goal

pub returns : goal.returns
returns c = update_encoded
