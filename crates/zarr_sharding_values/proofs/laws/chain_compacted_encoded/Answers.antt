use Rattle.zarr_sharding_values.proofs.ChainCompaction.{chain_compacted_encoded}
use Rattle.zarr_sharding_values.proofs.laws.chain_compacted_encoded.Goals as goal

pub returns : goal.returns
returns c = chain_compacted_encoded
