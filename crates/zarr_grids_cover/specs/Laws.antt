-- Laws of chunks and boxes, for every grid.
use Rattle.std.specs.Prelude.{◌≡◌, ℕ, List, [], ◌∷◌, true}
use Rattle.std.specs.List.{list_any}
use Rattle.zarr_grids_boxes.specs.Boxes.{Region, is_in_box}
use Rattle.zarr_grids_chunks.specs.Grids.{Grid, lies_in_chunk, IsInGrid, IsCovered, intersecting}
use Rattle.zarr_grids_dimensions.specs.Lookups.{are_dimensions}

-- each place of a covered box lies in one of the intersecting chunks
abbrev pub ChunksIntersectingCover : Type 0
ChunksIntersectingCover = (grid : Grid) (region : Region) (place : List ℕ) → IsCovered grid region → is_in_box region.start region.shape place ≡ true
    → list_any (lies_in_chunk grid place) (intersecting grid region) ≡ true

-- the box of a chunk in the grid is covered
abbrev pub ChunkCovered : Type 0
ChunkCovered = (grid : Grid) (chunk : List ℕ) (box : Region) → IsInGrid grid chunk box → IsCovered grid box

-- the box of a chunk in the grid intersects that chunk alone
abbrev pub ChunkIntersectingAlone : Type 0
ChunkIntersectingAlone = (grid : Grid) (chunk : List ℕ) (box : Region) → are_dimensions grid ≡ true → IsInGrid grid chunk box → intersecting grid box ≡ chunk ∷ []

-- the boxes of two chunks share no place
abbrev pub ChunksApart : Type 0
ChunksApart = (grid : Grid) (chunk other place : List ℕ) → lies_in_chunk grid place chunk ≡ true → lies_in_chunk grid place other ≡ true → chunk ≡ other
