use Rattle.zarr_sharding_metadata.proofs.Nested.{inner_said, shard_said}
use Rattle.zarr_sharding_metadata.proofs.laws.said_with_shards.Goals as goal

pub returns-clause-shard : goal.returns-clause-shard
returns-clause-shard c = shard_said

pub returns-clause-inner : goal.returns-clause-inner
returns-clause-inner c = inner_said
