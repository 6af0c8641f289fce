-- Chunk grids: in each dimension a function from chunk number to an interval.
use Rattle.std.specs.Prelude.{◌≡◌, ℕ, ◌+◌, ◌-◌, ◌*◌, ◌/◌, ◌^◌, List, [], ◌∷◌, map, replicate, length, take, min, slice_index, Bool, true, false, nat_lt, if◌then◌else◌, Option, Some, None, option_map, option_and_then}
use Rattle.std.specs.Option.{option_map_or}
use Rattle.std.specs.List.{filter, sum}
use Rattle.zarr_grids_boxes.specs.Boxes.{Region, places, is_in_box, share_place}

-- where a chunk lies along one dimension: its first number, and how many it has
pub record Interval : Type 0 where
  pub first : ℕ
  pub count : ℕ

-- one dimension of a grid: the array's size, and how its chunks lie
pub data Dimension : Type 0 where
  -- chunks of one edge, the last of them whole also where it passes the array
  regular : (size edge : ℕ) → Dimension
  -- chunks of one edge, the last of them clipped to the array
  clipped : (size edge : ℕ) → Dimension
  -- one chunk after another, each with an edge of its own
  varying : (size : ℕ) → (edges : List ℕ) → Dimension

-- a chunk grid: a dimension for each dimension of the array
abbrev pub Grid : Type 0
Grid = List Dimension

-- the interval of a chunk number: chunk k covers [k * edge, (k + 1) * edge) (Zarr core, regular grids); or that interval
-- clipped to the array; or what lies from the sum of the first k edges to the sum of the first k + 1 (this project's profile)
abbrev pub interval : Dimension → ℕ → Option Interval
interval (regular size edge) k = Some (record { first = k * edge; count = edge })
interval (clipped size edge) k = if nat_lt (k * edge) size then Some (record { first = k * edge; count = min edge (size - k * edge) }) else None
interval (varying size edges) k = if nat_lt k (length edges) then Some (record { first = sum (take k edges); count = slice_index edges k }) else None

-- how many chunks the grid shape counts: the size divided by the edge, rounded up; or as many as there are edges
abbrev pub chunk_count : Dimension → ℕ
chunk_count (regular size edge) = (size + (edge - 1)) / edge
chunk_count (clipped size edge) = (size + (edge - 1)) / edge
chunk_count (varying size edges) = length edges

-- how many chunks the grid has in each dimension
abbrev pub grid_shape : Grid → List ℕ
grid_shape grid = map chunk_count grid

-- an interval whose end passes 2^64 - 1 has no place in a box
abbrev pub addressable : Interval → Option Interval
addressable i = if nat_lt (i.first + i.count) (2 ^ 64) then Some i else None

-- one dimension more of a box
abbrev pub onto_box : Interval → Region → Region
onto_box i box = record { start = i.first ∷ box.start; shape = i.count ∷ box.shape }

-- the box of a chunk: the product of its intervals. A chunk whose end passes 2^64 - 1 has none
abbrev pub chunk_box : Grid → List ℕ → Option Region
chunk_box (d ∷ ds) (k ∷ ks) = option_and_then (λ i. option_map (onto_box i) (chunk_box ds ks)) (option_and_then addressable (interval d k))
chunk_box [] [] = Some (record { start = []; shape = [] })
chunk_box [] (k ∷ ks) = None
chunk_box (d ∷ ds) [] = None

-- whether a place lies in a chunk: in the chunk's box
abbrev pub lies_in_chunk : Grid → List ℕ → List ℕ → Bool
lies_in_chunk grid place chunk = option_map_or (λ box. is_in_box box.start box.shape place) (chunk_box grid chunk) false

-- all chunk indices in the grid, row-major
abbrev pub chunk_indices : Grid → List (List ℕ)
chunk_indices grid = places (replicate (length grid) 0) (grid_shape grid)

-- a chunk in the grid that has a box
pub record IsInGrid (grid : Grid) (chunk : List ℕ) (box : Region) : Type 0 where
  pub below : is_in_box (replicate (length grid) 0) (grid_shape grid) chunk ≡ true
  pub has_box : chunk_box grid chunk ≡ Some box

-- a box of places has the grid's dimensions, and each place of it lies in a chunk in the grid
pub record IsCovered (grid : Grid) (region : Region) : Type 0 where
  pub rank : length region.start ≡ length grid
  pub covered : (place : List ℕ) → is_in_box region.start region.shape place ≡ true
      → (chunk : List ℕ) × (box : Region) × IsInGrid grid chunk box × (is_in_box box.start box.shape place ≡ true)

-- each chunk of a box of chunk indices lies in the grid and has a box
pub record AreInGrid (grid : Grid) (chunks : Region) : Type 0 where
  pub rank : length chunks.start ≡ length grid
  pub below : (chunk : List ℕ) → is_in_box chunks.start chunks.shape chunk ≡ true → (box : Region) × IsInGrid grid chunk box

-- whether a chunk has a box that shares a place with a box of places
abbrev pub intersects : Grid → Region → List ℕ → Bool
intersects grid region chunk = option_map_or (λ box. share_place box.start box.shape region.start region.shape) (chunk_box grid chunk) false

-- the chunks in the grid that share a place with a box, row-major
abbrev pub intersecting : Grid → Region → List (List ℕ)
intersecting grid region = filter (intersects grid region) (chunk_indices grid)
