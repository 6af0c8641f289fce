-- The metadata that is written for shards.
use Rattle.std.specs.Prelude.{ℕ, map, codes}
use Rattle.serde_json.specs.Data.{Data, number, unsigned, array, string, Members, no_members, put}
use Rattle.serde_json.specs.View.{items_of}
use Rattle.zarr_grids_metadata.specs.ExtensionPoints.{ExtensionPoint, configured}
use Rattle.zarr_codecs_configurations.specs.Written.{points_list, location_name}
use Rattle.zarr_sharding_metadata.specs.Metadata.{ShardPoints}

-- a size as a JSON value
abbrev pub size_data : ℕ → Data
size_data size = number (unsigned size)

-- the configuration of `sharding_indexed`
abbrev pub shard_members : ShardPoints → Members
shard_members given =
    put (codes "index_location") (string (location_name given.location)) (put (codes "index_codecs") (array (points_list given.index))
    (put (codes "codecs") (array (points_list given.inner)) (put (codes "chunk_shape") (array (items_of (map size_data given.subchunk))) no_members)))

-- the metadata of `sharding_indexed`
abbrev pub shard_point : ShardPoints → ExtensionPoint
shard_point given = configured (codes "sharding_indexed") (shard_members given)
