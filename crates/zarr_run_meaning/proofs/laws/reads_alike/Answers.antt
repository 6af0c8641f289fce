use Rattle.zarr_run_meaning.proofs.Apart.{reads_alike}
use Rattle.zarr_run_meaning.proofs.laws.reads_alike.Goals as goal

pub returns : goal.returns
returns c = reads_alike
