use Rattle.zarr_run_meaning.proofs.KeptTight.{steps_keep_tight}
use Rattle.zarr_run_meaning.proofs.laws.steps_keep_tight.Goals as goal

pub returns : goal.returns
returns c = steps_keep_tight
