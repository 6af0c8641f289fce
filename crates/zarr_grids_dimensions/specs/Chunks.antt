-- What the lookups of a grid find.
use Rattle.std.specs.Prelude.{◌≡◌, ◌↔◌, ◌⊎◌, ℕ, ◌+◌, ◌-◌, ◌^◌, IsTrue, true, List, [], ◌∷◌, nat_lt, if◌then◌else◌, Option, Some, None, MatchOption, option_map, option_and_then, Vec}
use Rattle.zarr_grids_boxes.specs.Boxes.{Region, is_in_box, each2, last_index}
use Rattle.zarr_grids_chunks.specs.Grids.{Interval, Dimension, interval, Grid, chunk_box}
use Rattle.zarr_grids_dimensions.specs.Lookups.{interval_has, chunk_has}

-- f of each dimension and chunk number, where it answers for all of them
abbrev pub in_each : (Dimension → ℕ → Option ℕ) → Grid → List ℕ → Option (List ℕ)
in_each f (d ∷ ds) (k ∷ ks) = option_and_then (λ n. option_map (λ ns. n ∷ ns) (in_each f ds ks)) (f d k)
in_each f [] [] = Some []
in_each f [] (k ∷ ks) = None
in_each f (d ∷ ds) [] = None

-- a chunk's first place in one dimension, if it is at most 2^64 - 1
abbrev pub first_of : Dimension → ℕ → Option ℕ
first_of d k = option_and_then (λ (i : Interval). if nat_lt i.first (2 ^ 64) then Some i.first else None) (interval d k)

-- how many places a chunk has along one dimension
abbrev pub count_of : Dimension → ℕ → Option ℕ
count_of d k = option_map (λ (i : Interval). i.count) (interval d k)

-- a chunk's first place, where each of its numbers is at most 2^64 - 1
abbrev pub origin : Grid → List ℕ → Option (List ℕ)
origin grid chunk = in_each first_of grid chunk

-- how many places a chunk has in each dimension
abbrev pub shape : Grid → List ℕ → Option (List ℕ)
shape grid chunk = in_each count_of grid chunk

-- the numbers that a lookup in code found
abbrev pub numbers : {Z : Type 0} → Option (Vec ℕ Z) → Option (List ℕ)
numbers found = option_map (λ v. v.items) found

-- where a place lies in its chunk: less the chunk's first place
pub record IsElement (grid : Grid) (place element : List ℕ) : Type 0 where
  pub chunk : List ℕ
  pub first : List ℕ
  pub lies : chunk_has grid chunk place ≡ true
  pub origin_is : origin grid chunk ≡ Some first
  pub less : element ≡ each2 (λ p f. p - f) place first

-- a lookup along one dimension finds the chunk that a place lies in, and none where it lies in no chunk
abbrev pub FindsChunkAlong : Dimension → ℕ → Option ℕ → Type 0
FindsChunkAlong d place found = (chunk : ℕ) → (found ≡ Some chunk) ↔ IsTrue (interval_has d chunk place)

-- a lookup finds the chunk that a place lies in, and none where it lies in no chunk
abbrev pub FindsChunk : Grid → List ℕ → Option (List ℕ) → Type 0
FindsChunk grid place found = (chunk : List ℕ) → (found ≡ Some chunk) ↔ IsTrue (chunk_has grid chunk place)

-- whether a chunk shares a place with a box
abbrev pub SharesPlace : Grid → Region → List ℕ → Type 0
SharesPlace grid region chunk = (place : List ℕ) × (is_in_box region.start region.shape place ≡ true) × (chunk_has grid chunk place ≡ true)

-- a place lies in no chunk
abbrev pub LiesNowhere : Grid → List ℕ → Type 0
LiesNowhere grid place = (chunk : List ℕ) → ¬ (chunk_has grid chunk place ≡ true)

-- a lookup finds where a place lies in its chunk, and nothing where it lies in no chunk
abbrev pub FindsElement : {Z : Type 0} → Grid → List ℕ → Option (Vec ℕ Z) → Type 0
FindsElement grid place found = MatchOption found (LiesNowhere grid place) (λ element. IsElement grid place element.items)

-- a box of chunk indices has exactly the chunks that share a place with a box of places
abbrev pub HasChunksSharing : Grid → Region → Region → Type 0
HasChunksSharing grid region chunks = (chunk : List ℕ) → IsTrue (is_in_box chunks.start chunks.shape chunk) ↔ SharesPlace grid region chunk

-- the first or the last place of a box lies in no chunk
abbrev pub FirstOrLastLiesNowhere : Grid → Region → Type 0
FirstOrLastLiesNowhere grid region = LiesNowhere grid region.start ⊎ LiesNowhere grid (last_index region.start region.shape)

-- how many numbers there are from one to another
abbrev pub counts_to : List ℕ → List ℕ → List ℕ
counts_to firsts lasts = each2 (λ a b. b - a + 1) firsts lasts

-- a place lies in a chunk of a box of chunks
abbrev pub LiesAmong : Grid → Region → List ℕ → Type 0
LiesAmong grid chunks place = (chunk : List ℕ) × (is_in_box chunks.start chunks.shape chunk ≡ true) × (chunk_has grid chunk place ≡ true)

-- a box has exactly the places that lie in the chunks of a box of chunk indices
abbrev pub HasPlacesAmong : Grid → Region → Region → Type 0
HasPlacesAmong grid chunks region = (place : List ℕ) → IsTrue (is_in_box region.start region.shape place) ↔ LiesAmong grid chunks place

-- the first or the last chunk of a box of chunk indices has no box
abbrev pub FirstOrLastHasNoBox : Grid → Region → Type 0
FirstOrLastHasNoBox grid chunks = (chunk_box grid chunks.start ≡ None) ⊎ (chunk_box grid (last_index chunks.start chunks.shape) ≡ None)

-- how many numbers there are from each first number up to the end of another interval
abbrev pub lengths_to : List ℕ → List ℕ → List ℕ → List ℕ
lengths_to (f ∷ fs) (g ∷ gs) (c ∷ cs) = (g + c - f) ∷ lengths_to fs gs cs
lengths_to [] gs cs = []
lengths_to (f ∷ fs) [] cs = []
lengths_to (f ∷ fs) (g ∷ gs) [] = []
