use Rattle.zarr_sharding_changes.proofs.Overlays.{region_read}
use Rattle.zarr_sharding_changes.proofs.laws.region_written.Goals as goal

pub returns : goal.returns
returns c = region_read
