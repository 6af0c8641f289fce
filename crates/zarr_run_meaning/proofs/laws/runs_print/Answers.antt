use Rattle.zarr_run_meaning.proofs.Printing.{runs_print}
use Rattle.zarr_run_meaning.proofs.laws.runs_print.Goals as goal

pub returns : goal.returns
returns c = runs_print
