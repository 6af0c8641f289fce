use Rattle.zarr_sharding_partial.proofs.LocalParts.{part_is_local}
use Rattle.zarr_sharding_partial.proofs.laws.part_is_local.Goals as goal

pub returns : goal.returns
returns c = λ s numbers value other. part_is_local s numbers value other
