use Rattle.zarr_run_meaning.proofs.Apart.{writes_apart}
use Rattle.zarr_run_meaning.proofs.laws.writes_apart.Goals as goal

pub returns : goal.returns
returns c = writes_apart
