use Rattle.zarr_run_meaning.proofs.Undamaged.{owned_runs_undamaged}
use Rattle.zarr_run_meaning.proofs.laws.owned_runs_undamaged.Goals as goal

pub returns : goal.returns
returns c = owned_runs_undamaged
