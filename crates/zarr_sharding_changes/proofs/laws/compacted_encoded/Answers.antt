use Rattle.zarr_sharding_changes.proofs.Compacting.{compacted_encoded}
use Rattle.zarr_sharding_changes.proofs.laws.compacted_encoded.Goals as goal

pub returns : goal.returns
returns c = compacted_encoded
