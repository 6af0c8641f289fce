use Rattle.zarr_run_meaning.proofs.One.{runs_reopen_one}
use Rattle.zarr_run_meaning.proofs.laws.runs_reopen_one.Goals as goal

pub returns : goal.returns
returns c = runs_reopen_one
