use Rattle.std.proofs.Common.{refl}
use Rattle.zarr_sharding_metadata.proofs.laws.worked_metadata.Goals as goal

pub returns : goal.returns
returns c = record {
  index_at_the_end = refl;
  index_at_the_start = refl;
  index_elsewhere = refl;
  size_of_zero = refl;
  another_member = refl;
  two_shards = refl;
  three_shards = refl;
  shard_as_index = refl;
}
