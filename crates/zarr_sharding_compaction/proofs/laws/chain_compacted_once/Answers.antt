use Rattle.zarr_sharding_compaction.proofs.Chains.{chain_compacted_once}
use Rattle.zarr_sharding_compaction.proofs.laws.chain_compacted_once.Goals as goal

pub returns : goal.returns
returns c = λ chain type shape value made lawful fit keeps. chain_compacted_once chain type shape value made lawful fit keeps
