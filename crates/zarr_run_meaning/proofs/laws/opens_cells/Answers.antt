use Rattle.zarr_run_meaning.proofs.Begun.{opens_cells}
use Rattle.zarr_run_meaning.proofs.laws.opens_cells.Goals as goal

pub returns : goal.returns
returns c = opens_cells
