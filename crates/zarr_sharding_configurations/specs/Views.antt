-- What the configurations of `src/` give.
use Rattle.std.specs.Prelude.{map}
use Rattle.zarr_grids_metadata.specs.Views.{point_of}
use Rattle.zarr_sharding_index.specs.Views.{location_of}
use Rattle.zarr_sharding_metadata.specs.Metadata.{ShardPoints}
use Rattle.zarr_sharding_configurations.specs.declared.sharding.ShardingCodecConfiguration.{ShardingCodecConfiguration}

-- what a configuration of `sharding_indexed` gives
abbrev pub shard_points : ShardingCodecConfiguration → ShardPoints
shard_points given = record { subchunk = given.chunk_shape; inner = map point_of given.codecs.items; index = map point_of given.index_codecs.items; location = location_of given.index_location }
