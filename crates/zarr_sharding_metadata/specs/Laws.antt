-- Laws of what the metadata of shards says.
use Rattle.std.specs.Prelude.{◌≡◌, ℕ, suc, List, true, false, Option, Some, None}
use Rattle.zarr_grids_metadata.specs.ExtensionPoints.{ExtensionPoint}
use Rattle.zarr_codecs_meaning.specs.Chains.{Chain}
use Rattle.zarr_codecs_metadata.specs.Chains.{ReadsCodecs, allowed_chain}
use Rattle.zarr_sharding_metadata.specs.Metadata.{chain_within}
use Rattle.zarr_sharding_metadata.specs.Nesting.{inner_points, shard_stands, sharded_chain_of}

-- where no shard is named, extension points say what they say without shards
abbrev pub PlainSaid : Type 0
PlainSaid = (reads : ReadsCodecs) (shards : ℕ) (points : List ExtensionPoint) → shard_stands points ≡ false → chain_within reads shards points ≡ allowed_chain reads points

-- where one is named, they say nothing without shards
abbrev pub NoneSaid : Type 0
NoneSaid = (reads : ReadsCodecs) (points : List ExtensionPoint) → shard_stands points ≡ true → allowed_chain reads points ≡ None

-- and with shards a chain in which a shard stands, whose subchunks' chain has one shard less
abbrev pub ShardSaid : Type 0
ShardSaid = (reads : ReadsCodecs) (shards : ℕ) (points : List ExtensionPoint) → shard_stands points ≡ true → chain_within reads (suc shards) points ≡ sharded_chain_of reads (chain_within reads shards) points

-- of what is said of its subchunks only that of their own extension points counts
abbrev pub InnerSaid : Type 0
InnerSaid = (reads : ReadsCodecs) (one two : List ExtensionPoint → Option Chain) (points : List ExtensionPoint) → ((inside : List ExtensionPoint) → inner_points points ≡ Some inside → one inside ≡ two inside)
    → sharded_chain_of reads one points ≡ sharded_chain_of reads two points
