-- Shards as their configurations give them (Zarr sharding codec, "Configuration parameters").
use Rattle.std.specs.Prelude.{◌≡◌, ◌⊎◌, List, Bool, ◌||◌, Option, Some, MatchBool}
use Rattle.zarr_grids_metadata.specs.ExtensionPoints.{ExtensionPoint}
use Rattle.zarr_grids_metadata.specs.declared.error.PluginCreateError.{PluginCreateError}
use Rattle.zarr_grids_metadata.specs.declared.error.PluginCreateError.TheVariants as plugin
use Rattle.zarr_codecs_meaning.specs.Chains.{Chain}
use Rattle.zarr_codecs_metadata.specs.Chains.{any_too_deep}
use Rattle.zarr_sharding_metadata.specs.Metadata.{ShardPoints}
use Rattle.zarr_sharding_codec.specs.Views.{index_of, inner_of, place_of_index, subchunk_of}
use Rattle.zarr_sharding_codec.specs.declared.codec.ShardingCodec.{ShardingCodec}

-- what a shard is configured by, by the metadata of the codecs of its subchunks and of its index
abbrev pub given_to_shard : {I X : Type 0} → (I → List ExtensionPoint) → (X → List ExtensionPoint) → ShardingCodec I X → ShardPoints
given_to_shard inner index codec = record { subchunk = subchunk_of codec; inner = inner (inner_of codec); index = index (index_of codec); location = place_of_index codec }

-- why no shard is made of what it is configured by: the codecs of its subchunks are refused, or those of its index
abbrev pub RefusesShard : (List ExtensionPoint → Option Chain) → (List ExtensionPoint → PluginCreateError → Type 0) → (List ExtensionPoint → PluginCreateError → Type 0) → ShardPoints → PluginCreateError → Type 0
RefusesShard inner refuses refuses_index given cause = refuses given.inner cause ⊎ ((chain : Chain) × (inner given.inner ≡ Some chain) × refuses_index given.index cause)

-- whether a codec that a shard is configured by, for its subchunks or its index, nests deeper than is read
abbrev pub shard_too_deep : ShardPoints → Bool
shard_too_deep given = any_too_deep given.inner || any_too_deep given.index

-- why a caller's configuration of a shard is refused: a codec in it nests deeper than is read, which is tested first, or no shard is made of it
abbrev pub RefusesReadShard : (List ExtensionPoint → Option Chain) → (List ExtensionPoint → PluginCreateError → Type 0) → (List ExtensionPoint → PluginCreateError → Type 0) → ShardPoints → PluginCreateError → Type 0
RefusesReadShard inner refuses refuses_index given cause = MatchBool (shard_too_deep given) (cause ≡ plugin.TooDeep) (RefusesShard inner refuses refuses_index given cause)
