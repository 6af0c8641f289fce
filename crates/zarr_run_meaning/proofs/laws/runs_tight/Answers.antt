use Rattle.zarr_run_meaning.proofs.KeptTight.{runs_tight}
use Rattle.zarr_run_meaning.proofs.laws.runs_tight.Goals as goal

pub returns : goal.returns
returns c = runs_tight
