use Rattle.zarr_run_meaning.proofs.Workers.{workers_alike}
use Rattle.zarr_run_meaning.proofs.laws.workers_alike.Goals as goal

pub returns : goal.returns
returns c = workers_alike
