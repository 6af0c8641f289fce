use Rattle.zarr_run_meaning.proofs.KeptTight.{compacts_exactly}
use Rattle.zarr_run_meaning.proofs.laws.compacts_exactly.Goals as goal

pub returns : goal.returns
returns c = compacts_exactly
