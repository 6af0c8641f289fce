use Rattle.zarr_run_meaning.proofs.Apart.{reads_apart}
use Rattle.zarr_run_meaning.proofs.laws.reads_apart.Goals as goal

pub returns : goal.returns
returns c = reads_apart
