use Rattle.zarr_run_meaning.proofs.Changed.{changes_no_cell}
use Rattle.zarr_run_meaning.proofs.laws.changes_no_cell.Goals as goal

pub returns : goal.returns
returns c = changes_no_cell
