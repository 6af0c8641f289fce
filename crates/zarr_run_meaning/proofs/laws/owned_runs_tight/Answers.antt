use Rattle.zarr_run_meaning.proofs.KeptTight.{owned_runs_tight}
use Rattle.zarr_run_meaning.proofs.laws.owned_runs_tight.Goals as goal

pub returns : goal.returns
returns c = owned_runs_tight
