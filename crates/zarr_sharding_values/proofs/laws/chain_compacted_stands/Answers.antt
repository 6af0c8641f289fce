use Rattle.zarr_sharding_values.proofs.ChainCompaction.{chain_compacted_stands}
use Rattle.zarr_sharding_values.proofs.laws.chain_compacted_stands.Goals as goal

pub returns : goal.returns
returns c = chain_compacted_stands
