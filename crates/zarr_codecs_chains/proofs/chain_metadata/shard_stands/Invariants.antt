use Rattle.std.proofs.Common.{◌≡◌, drop, map}
use Rattle.zarr_grids_metadata.specs.Views.{point_of}
use Rattle.zarr_sharding_metadata.specs.Nesting.{shard_stands}
use Rattle.zarr_codecs_chains.proofs.chain_metadata.shard_stands.Given as goal

-- what is left names a shard where all of it does
abbrev pub invariant-loop-metadata : goal.invariant-loop-metadata
invariant-loop-metadata l = shard_stands (map point_of l.codecs) ≡ shard_stands (map point_of (drop l.metadata-index l.codecs))
