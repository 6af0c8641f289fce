use Rattle.zarr_run_meaning.proofs.Again.{runs_reopen}
use Rattle.zarr_run_meaning.proofs.laws.runs_reopen.Goals as goal

pub returns : goal.returns
returns c = runs_reopen
