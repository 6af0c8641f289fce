use Rattle.zarr_run_meaning.proofs.Reopening.{reopened_sound}
use Rattle.zarr_run_meaning.proofs.laws.reopened_sound.Goals as goal

pub returns : goal.returns
returns c = reopened_sound
