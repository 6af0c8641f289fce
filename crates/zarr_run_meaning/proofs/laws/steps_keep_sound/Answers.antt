use Rattle.zarr_run_meaning.proofs.Alone.{steps_keep_sound}
use Rattle.zarr_run_meaning.proofs.laws.steps_keep_sound.Goals as goal

pub returns : goal.returns
returns c = steps_keep_sound
