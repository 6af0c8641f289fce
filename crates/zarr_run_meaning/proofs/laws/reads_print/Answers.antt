use Rattle.zarr_run_meaning.proofs.Printing.{reads_print}
use Rattle.zarr_run_meaning.proofs.laws.reads_print.Goals as goal

pub returns : goal.returns
returns c = reads_print
