-- How the edges of chunks are given, and the grid that they make of an array's shape.
use Rattle.std.specs.Prelude.{ℕ, ◌^◌, List, [], ◌∷◌, length, sum, Bool, true, ◌&&◌, ◌==◌, nat_le, nat_lt, if◌then◌else◌, Option, Some, None, option_map, option_and_then}
use Rattle.zarr_grids_chunks.specs.Grids.{Dimension, regular, clipped, varying, Grid}
use Rattle.zarr_grids_dimensions.specs.declared.repeat.RepeatedEdge.{RepeatedEdge}
use Rattle.zarr_grids_dimensions.specs.Lookups.{all_positive}
use Rattle.zarr_grids_dimensions.specs.RepeatedEdges.{expanded, edges, counts}

-- how the edges of the chunks along one dimension are given
pub data Edges : Type 0 where
  -- one edge for all chunks, the last of them whole
  fixed : ℕ → Edges
  -- one edge for all chunks, the last of them clipped to the array
  bounded : ℕ → Edges
  -- each chunk's edge, whose sum is the size
  exact : List ℕ → Edges
  -- repeats of chunks of one edge, whose sum is at least the size
  covering : List RepeatedEdge → Edges

-- one chunk of this edge
abbrev pub single_repeat : ℕ → RepeatedEdge
single_repeat edge = record { edge = edge; count = 1 }

-- each edge is positive, and so is the count of each repeat; a list with the size as sum is not empty
abbrev pub is_positive : Edges → Bool
is_positive (fixed e) = nat_lt 0 e
is_positive (bounded e) = nat_lt 0 e
is_positive (exact es) = nat_lt 0 (length es) && all_positive es
is_positive (covering repeats) = all_positive (edges repeats) && all_positive (counts repeats)

-- whether the edges given for each dimension are more than 0
abbrev pub are_positive : List Edges → Bool
are_positive [] = true
are_positive (given ∷ configuration) = is_positive given && are_positive configuration

-- the sum of listed edges suits the size of the dimension: it is the size, or at least the size where repeats cover it
abbrev pub suits : ℕ → Edges → Bool
suits size (fixed e) = true
suits size (bounded e) = true
suits size (exact es) = sum es == size
suits size (covering repeats) = nat_le size (sum (expanded repeats))

-- listed edges are of at most 2^64 - 1 chunks
abbrev pub is_countable : Edges → Bool
is_countable (fixed e) = true
is_countable (bounded e) = true
is_countable (exact es) = nat_lt (length es) (2 ^ 64)
is_countable (covering repeats) = nat_lt (length (expanded repeats)) (2 ^ 64)

-- the dimension of a size and given edges
abbrev pub dimension_with : ℕ → Edges → Dimension
dimension_with size (fixed e) = regular size e
dimension_with size (bounded e) = clipped size e
dimension_with size (exact es) = varying size es
dimension_with size (covering repeats) = varying size (expanded repeats)

-- that dimension, where each edge is positive, the sum suits, and the chunks can be counted
abbrev pub dimension_in : ℕ → Edges → Option Dimension
dimension_in size given = if is_positive given && suits size given && is_countable given then Some (dimension_with size given) else None

-- the grid of an array's shape and the edges given for each dimension: none where one dimension has none, or where there is another number of dimensions
abbrev pub grid_in : List ℕ → List Edges → Option Grid
grid_in (size ∷ shape) (given ∷ configuration) = option_and_then (λ d. option_map (λ ds. d ∷ ds) (grid_in shape configuration)) (dimension_in size given)
grid_in [] [] = Some []
grid_in [] (given ∷ configuration) = None
grid_in (size ∷ shape) [] = None

-- a test passes in each dimension
abbrev pub in_every : (ℕ → Edges → Bool) → List ℕ → List Edges → Bool
in_every test (size ∷ shape) (given ∷ configuration) = test size given && in_every test shape configuration
in_every test [] configuration = true
in_every test (size ∷ shape) [] = true
