use Rattle.zarr_run_meaning.proofs.Owning.{opens_none}
use Rattle.zarr_run_meaning.proofs.laws.opens_none.Goals as goal

pub returns : goal.returns
returns c = opens_none
