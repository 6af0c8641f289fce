use Rattle.zarr_run_meaning.proofs.BoxOrders.{writes_commute_apart}
use Rattle.zarr_run_meaning.proofs.box_laws.writes_commute_apart.Goals as goal

pub returns : goal.returns
returns c = writes_commute_apart
