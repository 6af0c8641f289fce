use Rattle.std.proofs.Common.{◌≡◌, ◌++◌, drop, ℕ, List, option_map}
use Rattle.zarr_grids_dimensions.specs.Chunks.{in_each, count_of}
use Rattle.zarr_grids_dimensions.specs.Dimensions.{grid_of}
use Rattle.zarr_grids_dimensions.proofs.lookups.find_shape.Given as goal

-- what is left goes on from what was found
abbrev pub invariant-loop-k : goal.invariant-loop-k
invariant-loop-k l = in_each count_of (grid_of l.grid) l.chunk ≡ option_map (λ (ns : List ℕ). l.found.items ++ ns) (in_each count_of (grid_of (drop l.k l.grid)) (drop l.k l.chunk))
