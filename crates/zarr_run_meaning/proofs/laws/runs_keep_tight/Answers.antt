use Rattle.zarr_run_meaning.proofs.KeptTight.{runs_keep_tight}
use Rattle.zarr_run_meaning.proofs.laws.runs_keep_tight.Goals as goal

pub returns : goal.returns
returns c = runs_keep_tight
