use Rattle.zarr_run_meaning.proofs.Sound.{runs_sound}
use Rattle.zarr_run_meaning.proofs.laws.runs_sound.Goals as goal

pub returns : goal.returns
returns c = runs_sound
