use Rattle.zarr_sharding_values.proofs.LocalReads.{read_is_local}
use Rattle.zarr_sharding_values.proofs.laws.read_is_local.Goals as goal

pub returns : goal.returns
returns c = read_is_local
