-- Shards as their configurations give them.
use Rattle.std.proofs.Common.{◌≡◌, List, ap, Option, None, option_map, option_and_then}
use Rattle.zarr_grids_metadata.specs.ExtensionPoints.{ExtensionPoint}
use Rattle.zarr_codecs_meaning.specs.Chains.{Chain}
use Rattle.zarr_codecs_meaning.specs.Chains.Chain.{sharded}
use Rattle.zarr_sharding_metadata.specs.Metadata.{ShardPoints, shard_of}

-- the shard of a configuration, by what is said of its chains
pub shard_made : (inner index : List ExtensionPoint → Option Chain) (given : ShardPoints) (i x : Option Chain) → inner given.inner ≡ i → index given.index ≡ x
    → shard_of inner index given ≡ option_and_then (λ a. option_map (λ b. sharded given.subchunk a b given.location) x) i
shard_made inner index given i x one two = ap (λ (o : Option Chain × Option Chain). option_and_then (λ a. option_map (λ b. sharded given.subchunk a b given.location) o.1) o.0) (λ k. (one k, two k))

-- there is none where its subchunks have none
pub no_inner : (inner index : List ExtensionPoint → Option Chain) (given : ShardPoints) → inner given.inner ≡ None → shard_of inner index given ≡ None
no_inner inner index given one = ap (option_and_then (λ a. option_map (λ b. sharded given.subchunk a b given.location) (index given.index))) one
