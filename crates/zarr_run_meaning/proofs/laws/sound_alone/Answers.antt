use Rattle.zarr_run_meaning.proofs.Alone.{sound_alone}
use Rattle.zarr_run_meaning.proofs.laws.sound_alone.Goals as goal

pub returns : goal.returns
returns c = sound_alone
