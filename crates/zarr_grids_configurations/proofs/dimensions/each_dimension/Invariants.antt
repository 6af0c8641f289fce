use Rattle.std.proofs.Common.{drop}
use Rattle.zarr_grids_dimensions.specs.Dimensions.{grid_of}
use Rattle.zarr_grids_configurations.specs.Views.{given_view}
use Rattle.zarr_grids_configurations.proofs.MakingWalk.{MadeSoFar}
use Rattle.zarr_grids_configurations.proofs.dimensions.each_dimension.Given as goal

-- what is left goes on from the dimensions so far
abbrev pub invariant-loop-k : goal.invariant-loop-k
invariant-loop-k l = MadeSoFar l.array_shape (given_view l.given) (grid_of l.made.items) (drop l.k l.array_shape) (drop l.k (given_view l.given))
