use Rattle.zarr_sharding_changes.proofs.Compacting.{compacted_stands}
use Rattle.zarr_sharding_changes.proofs.laws.compacted_stands.Goals as goal

pub returns : goal.returns
returns c = compacted_stands
