use Rattle.zarr_run_meaning.proofs.KeptCanon.{sound_runs_keep_canon}
use Rattle.zarr_run_meaning.proofs.laws.sound_runs_keep_canon.Goals as goal

pub returns : goal.returns
returns c = sound_runs_keep_canon
