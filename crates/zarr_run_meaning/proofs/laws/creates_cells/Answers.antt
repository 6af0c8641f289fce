use Rattle.zarr_run_meaning.proofs.Begun.{creates_cells}
use Rattle.zarr_run_meaning.proofs.laws.creates_cells.Goals as goal

pub returns : goal.returns
returns c = creates_cells
