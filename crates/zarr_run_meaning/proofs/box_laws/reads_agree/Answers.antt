use Rattle.zarr_run_meaning.proofs.BoxSteps.{reads_agree}
use Rattle.zarr_run_meaning.proofs.box_laws.reads_agree.Goals as goal

pub returns : goal.returns
returns c = reads_agree
