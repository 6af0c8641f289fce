use Rattle.zarr_sharding_values.proofs.StoredAfresh.{encoded_fresh}
use Rattle.zarr_sharding_values.proofs.fresh.encoded_fresh.Goals as goal

pub returns : goal.returns
returns c = encoded_fresh
