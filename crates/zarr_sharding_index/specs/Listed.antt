-- The pairs of a shard's index, of which those of present subchunks are listed alone.
use Rattle.std.specs.Prelude.{◌≡◌, ℕ, ◌+◌, ◌<◌, ◌≤◌, List, [], ◌∷◌, length, get_or, map, Bool, true, not, ◌&&◌, ◌==◌, nat_le, nat_lt, if◌then◌else◌}
use Rattle.std.specs.List.{filter, range_with_len}
use Rattle.zarr_codecs_meaning.specs.Decoding.{is_absent}
use Rattle.zarr_codecs_meaning.specs.Encoding.{Pair, absent_pair}
use Rattle.zarr_sharding_index.specs.Views.{pair_of}
use Rattle.zarr_sharding_index.specs.declared.pair.PresentPair.{PresentPair}

-- numbers of subchunks, and a pair for each of them
abbrev pub numbered : List ℕ → List Pair → List PresentPair
numbered [] pairs = []
numbered (n ∷ ns) [] = []
numbered (n ∷ ns) (pair ∷ pairs) = record { number = n; range = record { offset = pair.0; length = pair.1 } } ∷ numbered ns pairs

-- the numbers of present subchunks, by the pairs of all
abbrev pub present_numbers : List Pair → List ℕ
present_numbers pairs = filter (λ n. not (is_absent (get_or pairs n absent_pair))) (range_with_len 0 (length pairs))

-- whether pairs are those of present subchunks, whose numbers rise from one on, so that no two are alike, and stay below a count
abbrev pub are_present : ℕ → ℕ → List PresentPair → Bool
are_present from count [] = true
are_present from count (p ∷ ps) = nat_le from p.number && nat_lt p.number count && not (is_absent (pair_of p.range)) && are_present (p.number + 1) count ps

-- the pair of the subchunk with a number: the one that is listed for it, or that of an absent subchunk
abbrev pub pair_listed : List PresentPair → ℕ → Pair
pair_listed [] n = absent_pair
pair_listed (p ∷ ps) n = if p.number == n then pair_of p.range else pair_listed ps n

-- the full list of the pairs of so many subchunks, of which the present ones are listed
abbrev pub full_list : ℕ → List PresentPair → List Pair
full_list count present = map (pair_listed present) (range_with_len 0 count)

-- how many pairs are those of present subchunks
abbrev pub count_present : List Pair → ℕ
count_present pairs = length (filter (λ pair. not (is_absent pair)) pairs)

-- the pair of the subchunk with a number is listed at a place
pub record IsListedAt (present : List PresentPair) (n i : ℕ) : Type 0 where
  pub within : i < length present
  pub number : (d : PresentPair) → (get_or present i d).number ≡ n

-- no pair is listed for the subchunk with a number: it would stand at this place, behind those of smaller numbers and before those of greater ones
pub record IsGapFor (present : List PresentPair) (n i : ℕ) : Type 0 where
  pub within : i ≤ length present
  pub before : (j : ℕ) (d : PresentPair) → j < i → (get_or present j d).number < n
  pub after : (j : ℕ) (d : PresentPair) → i ≤ j → j < length present → n < (get_or present j d).number
