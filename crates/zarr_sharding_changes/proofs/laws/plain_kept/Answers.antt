use Rattle.zarr_sharding_changes.proofs.Compactions.{plain_kept}
use Rattle.zarr_sharding_changes.proofs.laws.plain_kept.Goals as goal

pub returns : goal.returns
returns c = plain_kept
