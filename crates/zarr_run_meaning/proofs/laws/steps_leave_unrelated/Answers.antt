use Rattle.zarr_run_meaning.proofs.Changed.{steps_leave_unrelated}
use Rattle.zarr_run_meaning.proofs.laws.steps_leave_unrelated.Goals as goal

pub returns : goal.returns
returns c = steps_leave_unrelated
