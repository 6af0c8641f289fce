use Rattle.zarr_run_meaning.proofs.LocalReads.{reads_are_local}
use Rattle.zarr_run_meaning.proofs.box_laws.reads_are_local.Goals as goal

pub returns : goal.returns
returns c = reads_are_local
