use Rattle.zarr_run_meaning.proofs.Owning.{empty_owned}
use Rattle.zarr_run_meaning.proofs.laws.empty_owned.Goals as goal

pub returns : goal.returns
returns c = empty_owned
