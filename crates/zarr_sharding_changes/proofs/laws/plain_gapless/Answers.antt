use Rattle.zarr_sharding_changes.proofs.Gapless.{plain_gapless}
use Rattle.zarr_sharding_changes.proofs.laws.plain_gapless.Goals as goal

pub returns : goal.returns
returns c = plain_gapless
