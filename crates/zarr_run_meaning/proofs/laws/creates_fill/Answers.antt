use Rattle.zarr_run_meaning.proofs.Begun.{creates_fill}
use Rattle.zarr_run_meaning.proofs.laws.creates_fill.Goals as goal

pub returns : goal.returns
returns c = creates_fill
