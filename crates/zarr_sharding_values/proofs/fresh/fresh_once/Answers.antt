use Rattle.zarr_sharding_values.proofs.StoredAfresh.{fresh_once}
use Rattle.zarr_sharding_values.proofs.fresh.fresh_once.Goals as goal

pub returns : goal.returns
returns c = fresh_once
