use Rattle.zarr_run_meaning.proofs.Again.{runs_go_on}
use Rattle.zarr_run_meaning.proofs.laws.runs_go_on.Goals as goal

pub returns : goal.returns
returns c = runs_go_on
