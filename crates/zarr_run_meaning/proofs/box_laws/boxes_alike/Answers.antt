use Rattle.zarr_run_meaning.proofs.BoxRuns.{boxes_alike}
use Rattle.zarr_run_meaning.proofs.box_laws.boxes_alike.Goals as goal

pub returns : goal.returns
returns c = boxes_alike
