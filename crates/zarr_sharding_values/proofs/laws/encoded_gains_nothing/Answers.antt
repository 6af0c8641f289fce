use Rattle.zarr_sharding_values.proofs.ChainCompaction.{encoded_gains_nothing}
use Rattle.zarr_sharding_values.proofs.laws.encoded_gains_nothing.Goals as goal

pub returns : goal.returns
returns c = encoded_gains_nothing
