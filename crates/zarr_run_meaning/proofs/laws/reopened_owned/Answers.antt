use Rattle.zarr_run_meaning.proofs.Reopening.{reopened_owned}
use Rattle.zarr_run_meaning.proofs.laws.reopened_owned.Goals as goal

pub returns : goal.returns
returns c = reopened_owned
