-- The metadata of chains of arrays, and the names that they keep.
use Rattle.std.specs.Prelude.{◌≡◌, List, Bool, false, Option, Some, None, MatchOption}
use Rattle.zarr_grids_metadata.specs.ExtensionPoints.{ExtensionPoint, configuration_members}
use Rattle.zarr_codecs_meaning.specs.Chains.{ByteCodec}
use Rattle.zarr_codecs_around.specs.Copies.{WritesAlike}
use Rattle.zarr_codecs_around.specs.Views.{points_between}
use Rattle.zarr_codecs_chains.specs.Names.{NameAll, NamesChain}
use Rattle.zarr_codecs_chains.specs.Views.{points_of}
use Rattle.zarr_codecs_chains.specs.declared.chain.CodecChain.{CodecChain}
use Rattle.zarr_sharding_metadata.specs.Metadata.{shard_points_in}
use Rattle.zarr_sharding_metadata.specs.Nesting.{points_inside, shard_stands}
use Rattle.zarr_sharding_configurations.specs.Written.{shard_point}
use Rattle.zarr_sharding_codec.specs.Configured.{given_to_shard}
use Rattle.zarr_sharding_codec.specs.Views.{index_of, inner_of}
use Rattle.zarr_sharding_codec.specs.declared.codec.ShardingCodec.{ShardingCodec}
use Rattle.zarr_sharding_chains.specs.ArrayChains.{array_orders}
use Rattle.zarr_sharding_chains.specs.Views.{arrays_of, bytes_of, shard_of}
use Rattle.zarr_sharding_chains.specs.declared.sharded_chain.ShardedChain.{ShardedChain}
use Rattle.zarr_sharding_chains.specs.declared.array_chain.ArrayChain.{ArrayChain}
use Rattle.zarr_sharding_chains.specs.declared.array_chain.ArrayChain.TheVariants.{Plain, Sharded, Nested}

-- whether a shard is named among the codecs of the subchunks of the shard that an extension point names
abbrev pub shard_inside : ExtensionPoint → Bool
shard_inside point = elim (points_inside point) [ Some inside ↦ shard_stands inside | None ↦ false ]

-- the lists in the configuration of a shard have the names that the codecs of its subchunks and of its index keep
abbrev pub NamesShard : {B I : Type 0} → (I → List ExtensionPoint → Type 0) → ShardingCodec I (CodecChain B) → ExtensionPoint → Type 0
NamesShard names codec point = MatchOption (shard_points_in (configuration_members point.configuration)) ⊥ (λ given. names (inner_of codec) given.inner × NamesChain (index_of codec) given.index)

-- extension points have the names that the codecs of a chain around a shard keep
abbrev pub NamesSharded : {B I : Type 0} → (I → List ExtensionPoint → Type 0) → ShardedChain B I → List ExtensionPoint → Type 0
NamesSharded names chain points = NameAll (arrays_of chain) (NamesShard names (shard_of chain)) points

-- extension points have the names that the codecs of an array's chain keep
abbrev pub NamesArray : {B : Type 0} → ArrayChain B → List ExtensionPoint → Type 0
NamesArray (Plain chain) points = NamesChain chain points
NamesArray (Sharded chain) points = NamesSharded (λ inner ps. NamesChain inner ps) chain points
NamesArray (Nested chain) points = NamesSharded (λ outer ps. NamesSharded (λ inner qs. NamesChain inner qs) outer ps) chain points

-- the metadata of a shard, by that of the codecs of its subchunks
abbrev pub sharding_point : {B I : Type 0} → (I → List ExtensionPoint) → (B → ExtensionPoint) → ShardingCodec I (CodecChain B) → ExtensionPoint
sharding_point inner described codec = shard_point (given_to_shard inner (points_of described) codec)

-- the metadata of the codecs of a chain around a shard, in their order
abbrev pub sharded_points : {B I : Type 0} → (I → List ExtensionPoint) → (B → ExtensionPoint) → ShardedChain B I → List ExtensionPoint
sharded_points inner described chain = points_between described (arrays_of chain) (sharding_point inner described (shard_of chain)) (bytes_of chain)

-- the metadata of the codecs of an array's chain, in their order
abbrev pub array_chain_points : {B : Type 0} → (B → ExtensionPoint) → ArrayChain B → List ExtensionPoint
array_chain_points described (Plain chain) = points_of described chain
array_chain_points described (Sharded chain) = sharded_points (points_of described) described chain
array_chain_points described (Nested chain) = sharded_points (sharded_points (points_of described) described) described chain

-- the chain of an array is a copy: its codecs are written alike, and the subchunks of its shards in the same orders
pub record IsArrayCopy {B : Type 0} (bytes : B → ByteCodec) (chain copy : ArrayChain B) : Type 0 where
  pub written : (described : B → ExtensionPoint) → WritesAlike bytes described → array_chain_points described copy ≡ array_chain_points described chain
  pub orders : array_orders copy ≡ array_orders chain
