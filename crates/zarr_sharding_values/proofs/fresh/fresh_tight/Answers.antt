use Rattle.zarr_sharding_values.proofs.StoredAfresh.{fresh_tight}
use Rattle.zarr_sharding_values.proofs.fresh.fresh_tight.Goals as goal

pub returns : goal.returns
returns c = fresh_tight
