use Rattle.zarr_sharding_values.proofs.Shown.{chain_compacted_shows}
use Rattle.zarr_sharding_values.proofs.laws.chain_compacted_shows.Goals as goal

pub returns : goal.returns
returns c = chain_compacted_shows
