use Rattle.zarr_run_meaning.proofs.Alone.{begins_alone}
use Rattle.zarr_run_meaning.proofs.laws.begins_alone.Goals as goal

pub returns : goal.returns
returns c = begins_alone
