use Rattle.zarr_run_meaning.proofs.Sound.{owned_runs_sound}
use Rattle.zarr_run_meaning.proofs.laws.owned_runs_sound.Goals as goal

pub returns : goal.returns
returns c = owned_runs_sound
