use Rattle.zarr_run_meaning.proofs.Owning.{steps_own}
use Rattle.zarr_run_meaning.proofs.laws.steps_own.Goals as goal

pub returns : goal.returns
returns c = steps_own
