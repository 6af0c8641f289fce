use Rattle.zarr_run_meaning.proofs.KeptTight.{begins_tight}
use Rattle.zarr_run_meaning.proofs.laws.begins_tight.Goals as goal

pub returns : goal.returns
returns c = begins_tight
