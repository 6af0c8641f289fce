use Rattle.zarr_run_meaning.proofs.Sound.{owned_begins}
use Rattle.zarr_run_meaning.proofs.laws.owned_begins.Goals as goal

pub returns : goal.returns
returns c = owned_begins
