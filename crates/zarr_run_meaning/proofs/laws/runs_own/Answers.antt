use Rattle.zarr_run_meaning.proofs.Owning.{runs_own}
use Rattle.zarr_run_meaning.proofs.laws.runs_own.Goals as goal

pub returns : goal.returns
returns c = runs_own
