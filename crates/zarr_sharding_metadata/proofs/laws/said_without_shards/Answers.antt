use Rattle.zarr_sharding_metadata.proofs.Nested.{none_said, plain_said}
use Rattle.zarr_sharding_metadata.proofs.laws.said_without_shards.Goals as goal

pub returns-clause-plain : goal.returns-clause-plain
returns-clause-plain c = plain_said

pub returns-clause-none : goal.returns-clause-none
returns-clause-none c = none_said
