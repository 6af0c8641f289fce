use Rattle.zarr_run_meaning.proofs.Beginning.{begins_as_fill}
use Rattle.zarr_run_meaning.proofs.laws.begins_as_fill.Goals as goal

pub returns : goal.returns
returns c = begins_as_fill
