use Rattle.zarr_run_meaning.proofs.Reopening.{reopens_alike}
use Rattle.zarr_run_meaning.proofs.laws.reopens_alike.Goals as goal

pub returns : goal.returns
returns c = reopens_alike
