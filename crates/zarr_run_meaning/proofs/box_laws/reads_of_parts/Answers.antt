use Rattle.zarr_run_meaning.proofs.BoxSteps.{reads_of_parts}
use Rattle.zarr_run_meaning.proofs.box_laws.reads_of_parts.Goals as goal

pub returns : goal.returns
returns c = reads_of_parts
