use Rattle.zarr_run_meaning.proofs.Undamaged.{runs_undamaged}
use Rattle.zarr_run_meaning.proofs.laws.runs_undamaged.Goals as goal

pub returns : goal.returns
returns c = runs_undamaged
