use Rattle.zarr_run_meaning.proofs.Sound.{steps_sound}
use Rattle.zarr_run_meaning.proofs.laws.steps_sound.Goals as goal

pub returns : goal.returns
returns c = steps_sound
