use Rattle.zarr_sharding_values.proofs.StoredAfresh.{stored_anew_shows}
use Rattle.zarr_sharding_values.proofs.fresh.stored_anew_shows.Goals as goal

pub returns : goal.returns
returns c = stored_anew_shows
