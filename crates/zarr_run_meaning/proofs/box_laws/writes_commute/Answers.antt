use Rattle.zarr_run_meaning.proofs.BoxOrders.{writes_commute}
use Rattle.zarr_run_meaning.proofs.box_laws.writes_commute.Goals as goal

pub returns : goal.returns
returns c = writes_commute
