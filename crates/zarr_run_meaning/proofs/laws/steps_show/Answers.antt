use Rattle.zarr_run_meaning.proofs.Frames.{steps_show}
use Rattle.zarr_run_meaning.proofs.laws.steps_show.Goals as goal

pub returns : goal.returns
returns c = steps_show
