use Rattle.zarr_run_meaning.proofs.Canon.{rewrites_canon}
use Rattle.zarr_run_meaning.proofs.laws.rewrites_canon.Goals as goal

pub returns : goal.returns
returns c = rewrites_canon
