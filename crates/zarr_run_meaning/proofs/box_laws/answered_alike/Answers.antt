use Rattle.zarr_run_meaning.proofs.BoxRuns.{answered_alike}
use Rattle.zarr_run_meaning.proofs.box_laws.answered_alike.Goals as goal

pub returns : goal.returns
returns c = answered_alike
