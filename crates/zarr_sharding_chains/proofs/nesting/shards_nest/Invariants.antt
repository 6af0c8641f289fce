use Rattle.std.proofs.Common.{◌≡◌, drop, map}
use Rattle.zarr_grids_metadata.specs.Views.{point_of}
use Rattle.zarr_sharding_metadata.specs.Nesting.{shards_nest}
use Rattle.zarr_sharding_chains.proofs.nesting.shards_nest.Given as goal

-- what is left names a shard in a shard where all of it does
abbrev pub invariant-loop-metadata : goal.invariant-loop-metadata
invariant-loop-metadata l = shards_nest (map point_of l.codecs) ≡ shards_nest (map point_of (drop l.metadata-index l.codecs))
