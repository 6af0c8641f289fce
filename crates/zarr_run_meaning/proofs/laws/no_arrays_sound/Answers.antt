use Rattle.zarr_run_meaning.proofs.Beginning.{no_arrays_sound}
use Rattle.zarr_run_meaning.proofs.laws.no_arrays_sound.Goals as goal

pub returns : goal.returns
returns c = no_arrays_sound
