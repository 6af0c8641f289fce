use Rattle.zarr_sharding_changes.proofs.Gapless.{gapless_kept}
use Rattle.zarr_sharding_changes.proofs.laws.gapless_kept.Goals as goal

pub returns : goal.returns
returns c = gapless_kept
