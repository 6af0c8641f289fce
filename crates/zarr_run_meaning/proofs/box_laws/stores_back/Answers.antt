use Rattle.zarr_run_meaning.proofs.BoxSteps.{stores_back}
use Rattle.zarr_run_meaning.proofs.box_laws.stores_back.Goals as goal

pub returns : goal.returns
returns c = stores_back
