use Rattle.std.proofs.Common.{◌≡◌, ◌++◌, ◌^◌, ◌<◌, ℕ, drop, length, map}
use Rattle.std.specs.Prelude.{slice_index}
use Rattle.zarr_grids_dimensions.specs.Dimensions.{grid_of}
use Rattle.zarr_grids_cover.specs.Boxed.{addressable_count}
use Rattle.zarr_grids_cover.proofs.boxed.chunks_in_grid.Given as goal

-- what is left goes on from what was counted
abbrev pub invariant-loop-dimension : goal.invariant-loop-dimension
invariant-loop-dimension l = record {
  counted : map addressable_count (grid_of l.grid) ≡ l.shape.items ++ map addressable_count (grid_of (drop l.dimension-index l.grid));
  small : (k : ℕ) → k < length l.shape.items → slice_index l.shape.items k < 2 ^ 64;
}
