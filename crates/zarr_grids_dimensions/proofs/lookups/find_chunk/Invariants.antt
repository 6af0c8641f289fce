use Rattle.std.proofs.Common.{drop}
use Rattle.zarr_grids_dimensions.specs.Dimensions.{grid_of}
use Rattle.zarr_grids_dimensions.proofs.PlaceWalk.{FoundSoFar}
use Rattle.zarr_grids_dimensions.proofs.lookups.find_chunk.Given as goal

-- the chunks of the place are those that go on from what was found
abbrev pub invariant-loop-k : goal.invariant-loop-k
invariant-loop-k l = FoundSoFar (grid_of l.grid) l.place l.found.items (grid_of (drop l.k l.grid)) (drop l.k l.place)
