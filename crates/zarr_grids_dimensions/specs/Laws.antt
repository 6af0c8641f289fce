-- Laws of chunks and places.
use Rattle.std.specs.Prelude.{◌≡◌, Decides, ℕ, ◌<◌, List, length, map, replicate, true}
use Rattle.zarr_grids_boxes.specs.Boxes.{is_in_box}
use Rattle.zarr_grids_chunks.specs.Grids.{Dimension, chunk_count, Grid, grid_shape}
use Rattle.zarr_grids_dimensions.specs.Lookups.{is_dimension, size_of, interval_has, chunk_has, are_dimensions}
use Rattle.zarr_grids_dimensions.specs.Same.{same_dimension, same_grid}

-- the intervals of two chunks of a dimension share no place
abbrev pub IntervalsApart : Type 0
IntervalsApart = (d : Dimension) (chunk other place : ℕ) → interval_has d chunk place ≡ true → interval_has d other place ≡ true → chunk ≡ other

-- each place below the size lies in a chunk below the count, and in that chunk alone
abbrev pub PlaceInOneInterval : Type 0
PlaceInOneInterval = (d : Dimension) (place : ℕ) → is_dimension d ≡ true → place < size_of d
    → (chunk : ℕ) × (chunk < chunk_count d) × (interval_has d chunk place ≡ true) × ((other : ℕ) → interval_has d other place ≡ true → other ≡ chunk)

-- two chunks share no place
abbrev pub ChunksApart : Type 0
ChunksApart = (grid : Grid) (chunk other place : List ℕ) → chunk_has grid chunk place ≡ true → chunk_has grid other place ≡ true → chunk ≡ other

-- each place of the array lies in a chunk in the grid, and in that chunk alone
abbrev pub PlaceInOneChunk : Type 0
PlaceInOneChunk = (grid : Grid) (place : List ℕ) → are_dimensions grid ≡ true → is_in_box (replicate (length grid) 0) (map size_of grid) place ≡ true
    → (chunk : List ℕ) × (is_in_box (replicate (length grid) 0) (grid_shape grid) chunk ≡ true) × (chunk_has grid chunk place ≡ true) × ((other : List ℕ) → chunk_has grid other place ≡ true → other ≡ chunk)

-- the test of dimensions holds of a dimension and itself alone
abbrev pub SameDimensionIsEqual : Type 0
SameDimensionIsEqual = (a b : Dimension) → Decides (same_dimension a b) (a ≡ b)

-- the test of grids holds of a grid and itself alone
abbrev pub SameGridIsEqual : Type 0
SameGridIsEqual = (a b : Grid) → Decides (same_grid a b) (a ≡ b)
