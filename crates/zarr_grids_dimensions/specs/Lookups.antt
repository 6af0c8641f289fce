-- What the lookups find: chunks and places by intervals.
use Rattle.std.specs.Prelude.{ℕ, ◌+◌, List, [], ◌∷◌, sum, Bool, true, false, ◌&&◌, ◌||◌, nat_eq, nat_le, nat_lt}
use Rattle.std.specs.Option.{option_map_or}
use Rattle.zarr_grids_chunks.specs.Grids.{Interval, Dimension, regular, clipped, varying, interval, chunk_count, Grid}

-- whether each number of a list is more than 0
abbrev pub all_positive : List ℕ → Bool
all_positive [] = true
all_positive (n ∷ ns) = nat_lt 0 n && all_positive ns

-- each edge is positive, and the chunks cover the size
abbrev pub is_dimension : Dimension → Bool
is_dimension (regular size edge) = nat_lt 0 edge
is_dimension (clipped size edge) = nat_lt 0 edge
is_dimension (varying size edges) = all_positive edges && nat_le size (sum edges)

-- the array's size in one dimension
abbrev pub size_of : Dimension → ℕ
size_of (regular size edge) = size
size_of (clipped size edge) = size
size_of (varying size edges) = size

-- whether a place is one of an interval
abbrev pub lies_in_interval : ℕ → Interval → Bool
lies_in_interval p i = nat_le i.first p && nat_lt p (i.first + i.count)

-- whether a chunk has an interval in which the place lies
abbrev pub interval_has : Dimension → ℕ → ℕ → Bool
interval_has d k p = option_map_or (lies_in_interval p) (interval d k) false

-- whether a place lies in a chunk: in each dimension in its interval
abbrev pub chunk_has : Grid → List ℕ → List ℕ → Bool
chunk_has (d ∷ ds) (k ∷ ks) (p ∷ ps) = interval_has d k p && chunk_has ds ks ps
chunk_has [] [] [] = true
chunk_has [] [] (p ∷ ps) = false
chunk_has [] (k ∷ ks) ps = false
chunk_has (d ∷ ds) [] ps = false
chunk_has (d ∷ ds) (k ∷ ks) [] = false

-- whether each dimension of a grid has positive edges that cover its size
abbrev pub are_dimensions : Grid → Bool
are_dimensions [] = true
are_dimensions (d ∷ ds) = is_dimension d && are_dimensions ds

-- whether a test passes in each dimension, and there are as many numbers as dimensions
abbrev pub in_all : (Dimension → ℕ → Bool) → Grid → List ℕ → Bool
in_all test (d ∷ ds) (n ∷ ns) = test d n && in_all test ds ns
in_all test [] [] = true
in_all test [] (n ∷ ns) = false
in_all test (d ∷ ds) [] = false

-- a chunk number is below the count, where a count of 0 stands for no limit
abbrev pub chunk_inbounds : Dimension → ℕ → Bool
chunk_inbounds d k = nat_eq (chunk_count d) 0 || nat_lt k (chunk_count d)

-- whether a place lies within the array's size in one dimension
abbrev pub place_inbounds : Dimension → ℕ → Bool
place_inbounds d p = nat_lt p (size_of d)
