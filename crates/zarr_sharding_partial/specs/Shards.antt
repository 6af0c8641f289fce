-- The shard of an array.
use Rattle.std.specs.Prelude.{ℕ, List}
use Rattle.zarr_codecs_meaning.specs.Chains.{Chain, Location, sharded}
use Rattle.zarr_codecs_meaning.specs.Types.{Elements}

-- the shape of its subchunks, the chains of these and of its index, where the index stands, and the array's elements and shape
pub record ShardOf : Type 0 where
  pub subchunk : List ℕ
  pub inner : Chain
  pub index : Chain
  pub location : Location
  pub elements : Elements
  pub shape : List ℕ

-- the chain of a shard
abbrev pub chain_of : ShardOf → Chain
chain_of s = sharded s.subchunk s.inner s.index s.location
