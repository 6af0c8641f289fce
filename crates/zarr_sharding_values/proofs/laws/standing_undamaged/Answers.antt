use Rattle.zarr_sharding_values.proofs.ChainCompaction.{standing_undamaged}
use Rattle.zarr_sharding_values.proofs.laws.standing_undamaged.Goals as goal

pub returns : goal.returns
returns c = standing_undamaged
