use Rattle.zarr_sharding_values.proofs.StoredAfresh.{absent_fresh}
use Rattle.zarr_sharding_values.proofs.fresh.absent_fresh.Goals as goal

pub returns : goal.returns
returns c = absent_fresh
