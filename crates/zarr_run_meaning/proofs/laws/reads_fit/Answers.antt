use Rattle.zarr_run_meaning.proofs.Reading.{reads_fit}
use Rattle.zarr_run_meaning.proofs.laws.reads_fit.Goals as goal

pub returns : goal.returns
returns c = reads_fit
