use Rattle.zarr_run_meaning.proofs.KeptCanon.{runs_keep_canon}
use Rattle.zarr_run_meaning.proofs.laws.runs_keep_canon.Goals as goal

pub returns : goal.returns
returns c = runs_keep_canon
