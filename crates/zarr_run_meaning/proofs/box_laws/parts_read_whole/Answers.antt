use Rattle.zarr_run_meaning.proofs.BoxSteps.{parts_read_whole}
use Rattle.zarr_run_meaning.proofs.box_laws.parts_read_whole.Goals as goal

pub returns : goal.returns
returns c = parts_read_whole
