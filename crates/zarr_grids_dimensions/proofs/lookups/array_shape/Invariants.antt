use Rattle.std.proofs.Common.{◌≡◌, ◌++◌, drop, map}
use Rattle.zarr_grids_dimensions.specs.Lookups.{size_of}
use Rattle.zarr_grids_dimensions.specs.Dimensions.{grid_of}
use Rattle.zarr_grids_dimensions.proofs.lookups.array_shape.Given as goal

-- what is left goes on from what was found
abbrev pub invariant-loop-dimension : goal.invariant-loop-dimension
invariant-loop-dimension l = map size_of (grid_of l.grid) ≡ l.sizes.items ++ map size_of (grid_of (drop l.dimension-index l.grid))
