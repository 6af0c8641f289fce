-- The chunks in the grid that have a box, as a box of chunk indices.
use Rattle.std.specs.Prelude.{◌≡◌, ℕ, List, length, Bool, is_some, option_and_then}
use Rattle.std.specs.List.{filter, range_with_len}
use Rattle.zarr_grids_boxes.specs.Boxes.{Region, places}
use Rattle.zarr_grids_chunks.specs.Grids.{Dimension, Grid, AreInGrid, interval, addressable, chunk_count, chunk_box, chunk_indices}

-- whether a chunk number has an interval that ends at most at 2^64 - 1, along one dimension
abbrev pub is_addressable : Dimension → ℕ → Bool
is_addressable d k = is_some (option_and_then addressable (interval d k))

-- how many chunks of a dimension have one
abbrev pub addressable_count : Dimension → ℕ
addressable_count d = length (filter (is_addressable d) (range_with_len 0 (chunk_count d)))

-- the chunks in the grid that have a box, row-major: those that end at most at 2^64 - 1
abbrev pub boxed_chunks : Grid → List (List ℕ)
boxed_chunks grid = filter (λ chunk. is_some (chunk_box grid chunk)) (chunk_indices grid)

-- a box of chunk indices lists them
pub record AreBoxed (grid : Grid) (chunks : Region) : Type 0 where
  pub listed : places chunks.start chunks.shape ≡ boxed_chunks grid
  pub below : AreInGrid grid chunks
