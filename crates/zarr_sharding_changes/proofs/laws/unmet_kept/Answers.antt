use Rattle.zarr_sharding_changes.proofs.HeldShards.{unmet_kept}
use Rattle.zarr_sharding_changes.proofs.laws.unmet_kept.Goals as goal

pub returns : goal.returns
returns c = unmet_kept
