-- Chains in which a shard stands, by what stands inside of it.
use Rattle.std.specs.Prelude.{List, [], ◌∷◌, Bool, false, if◌then◌else◌, Option, Some, None, option_map}
use Rattle.zarr_grids_metadata.specs.ExtensionPoints.{ExtensionPoint, configuration_members}
use Rattle.zarr_codecs_meaning.specs.Chains.{Chain}
use Rattle.zarr_codecs_metadata.specs.ArrayCodecs.{array_codec_in}
use Rattle.zarr_codecs_metadata.specs.Chains.{ReadsCodec, ReadsCodecs, allowed_chain, chain_by}
use Rattle.zarr_sharding_metadata.specs.Metadata.{names_shard, shard_points_in, sharding_of}

-- whether a shard is named after the array to array codecs that extension points begin with
abbrev pub shard_stands : List ExtensionPoint → Bool
shard_stands [] = false
shard_stands (point ∷ points) = elim (array_codec_in point) [ Some codec ↦ shard_stands points | None ↦ names_shard point.name ]

-- the extension points of the subchunks of the shard that an extension point names
abbrev pub points_inside : ExtensionPoint → Option (List ExtensionPoint)
points_inside point = if names_shard point.name then option_map (λ given. given.inner) (shard_points_in (configuration_members point.configuration)) else None

-- the extension points of the subchunks of the shard that is named after the array to array codecs
abbrev pub inner_points : List ExtensionPoint → Option (List ExtensionPoint)
inner_points [] = None
inner_points (point ∷ points) = elim (array_codec_in point) [ Some codec ↦ inner_points points | None ↦ points_inside point ]

-- whether a shard is named among these in turn
abbrev pub shards_nest : List ExtensionPoint → Bool
shards_nest points = elim (inner_points points) [ Some inside ↦ shard_stands inside | None ↦ false ]

-- the shard that an extension point is, by the chain that extension points say for its subchunks
abbrev pub shard_in : ReadsCodecs → (List ExtensionPoint → Option Chain) → ReadsCodec
shard_in reads inner point = if names_shard point.name then sharding_of inner (allowed_chain reads) (configuration_members point.configuration) else None

-- the chain in which a shard stands that extension points say, by the chain that they say for its subchunks
abbrev pub sharded_chain_of : ReadsCodecs → (List ExtensionPoint → Option Chain) → List ExtensionPoint → Option Chain
sharded_chain_of reads inner points = chain_by reads (shard_in reads inner) points
