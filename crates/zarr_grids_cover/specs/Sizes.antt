-- Whether some chunk of a box of chunks has as many places as asked, and the largest edges that tell it.
use Rattle.std.specs.Prelude.{◌≡◌, ℕ, ◌≤◌, List, [], ◌∷◌, map, max, true, unwrap_or}
use Rattle.std.specs.List.{range_with_len}
use Rattle.zarr_grids_boxes.specs.Boxes.{Region, product, is_in_box}
use Rattle.zarr_grids_chunks.specs.Grids.{Dimension, Grid, IsInGrid}
use Rattle.zarr_grids_dimensions.specs.Chunks.{count_of}

-- some chunk of a box of chunk indices lies in the grid and has at least this many places
abbrev pub HasChunkOf : Grid → Region → ℕ → Type 0
HasChunkOf grid chunks count = (chunk : List ℕ) × (box : Region) × IsInGrid grid chunk box × (is_in_box chunks.start chunks.shape chunk ≡ true) × (count ≤ product box.shape)

-- the largest number of a list
abbrev pub largest : List ℕ → ℕ
largest [] = 0
largest (n ∷ ns) = max n (largest ns)

-- how many places a chunk has along one dimension: 0 where there is no such chunk
abbrev pub edge_of : Dimension → ℕ → ℕ
edge_of d k = unwrap_or (count_of d k) 0

-- the most places that one of n chunks has, from chunk a on
abbrev pub largest_edge : Dimension → ℕ → ℕ → ℕ
largest_edge d a n = largest (map (edge_of d) (range_with_len a n))

-- the same in each dimension
abbrev pub largest_edges : Grid → List ℕ → List ℕ → List ℕ
largest_edges (d ∷ ds) (s ∷ ss) (x ∷ xs) = largest_edge d s x ∷ largest_edges ds ss xs
largest_edges [] ss xs = []
largest_edges (d ∷ ds) [] xs = []
largest_edges (d ∷ ds) (s ∷ ss) [] = []
