use Rattle.std.proofs.Common.{◌≡◌, ◌++◌, drop, map}
use Rattle.zarr_grids_chunks.specs.Grids.{chunk_count}
use Rattle.zarr_grids_dimensions.specs.Dimensions.{grid_of}
use Rattle.zarr_grids_dimensions.proofs.lookups.grid_shape.Given as goal

-- what is left goes on from what was found
abbrev pub invariant-loop-dimension : goal.invariant-loop-dimension
invariant-loop-dimension l = map chunk_count (grid_of l.grid) ≡ l.counts.items ++ map chunk_count (grid_of (drop l.dimension-index l.grid))
