use Rattle.zarr_run_meaning.proofs.KeptCanon.{runs_leave_canon}
use Rattle.zarr_run_meaning.proofs.laws.runs_leave_canon.Goals as goal

pub returns : goal.returns
returns c = runs_leave_canon
