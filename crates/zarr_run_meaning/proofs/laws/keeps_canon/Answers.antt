use Rattle.zarr_run_meaning.proofs.KeptCanon.{keeps_canon}
use Rattle.zarr_run_meaning.proofs.laws.keeps_canon.Goals as goal

pub returns : goal.returns
returns c = keeps_canon
