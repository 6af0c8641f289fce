-- Boxes of places: a start and a length in each dimension.
use Rattle.std.specs.Prelude.{◌≡◌, ℕ, ◌+◌, ◌-◌, ◌*◌, ◌/◌, ◌%◌, ◌^◌, ◌<◌, List, [], ◌∷◌, map, length, slice_index, Bool, true, false, ◌&&◌, nat_le, nat_lt, min, max}
use Rattle.std.specs.List.{range_with_len, flat_map}

-- a box: where it starts and how long it is in each dimension
pub record Region : Type 0 where
  pub start : List ℕ
  pub shape : List ℕ

-- how many places a box with this shape has
abbrev pub product : List ℕ → ℕ
product [] = 1
product (e ∷ es) = e * product es

-- each list with one number of each of the lists, row-major
abbrev pub rows : List (List ℕ) → List (List ℕ)
rows [] = [] ∷ []
rows (ks ∷ kss) = flat_map (λ k. map (λ r. k ∷ r) (rows kss)) ks

-- the numbers that a box has in each dimension
abbrev pub spans : List ℕ → List ℕ → List (List ℕ)
spans (s ∷ ss) (e ∷ es) = range_with_len s e ∷ spans ss es
spans [] es = []
spans (s ∷ ss) [] = []

-- the places of a box, row-major
abbrev pub places : List ℕ → List ℕ → List (List ℕ)
places start shape = rows (spans start shape)

-- whether a place lies in a box: start <= place < start + shape in each dimension
abbrev pub is_in_box : List ℕ → List ℕ → List ℕ → Bool
is_in_box (s ∷ ss) (e ∷ es) (p ∷ ps) = nat_le s p && nat_lt p (s + e) && is_in_box ss es ps
is_in_box [] [] [] = true
is_in_box [] [] (p ∷ ps) = false
is_in_box [] (e ∷ es) ps = false
is_in_box (s ∷ ss) [] ps = false
is_in_box (s ∷ ss) (e ∷ es) [] = false

-- whether two boxes share a place: in each dimension the later start lies before the earlier end
abbrev pub share_place : List ℕ → List ℕ → List ℕ → List ℕ → Bool
share_place (s ∷ ss) (e ∷ es) (t ∷ ts) (u ∷ us) = nat_lt (max s t) (min (s + e) (t + u)) && share_place ss es ts us
share_place [] [] [] [] = true
share_place [] [] [] (u ∷ us) = false
share_place [] [] (t ∷ ts) us = false
share_place [] (e ∷ es) ts us = false
share_place (s ∷ ss) [] ts us = false
share_place (s ∷ ss) (e ∷ es) [] us = false
share_place (s ∷ ss) (e ∷ es) (t ∷ ts) [] = false

-- the place with number n of a box
abbrev pub place_at : List ℕ → List ℕ → ℕ → List ℕ
place_at (s ∷ ss) (e ∷ es) n = (s + n / product es) ∷ place_at ss es (n % product es)
place_at [] es n = []
place_at (s ∷ ss) [] n = []

-- the number of an index below this shape
abbrev pub ravel : List ℕ → List ℕ → ℕ
ravel (i ∷ is) (e ∷ es) = i * product es + ravel is es
ravel [] es = 0
ravel (i ∷ is) [] = 0

-- f of the two numbers of each dimension
abbrev pub each2 : (ℕ → ℕ → ℕ) → List ℕ → List ℕ → List ℕ
each2 f (x ∷ xs) (y ∷ ys) = f x y ∷ each2 f xs ys
each2 f [] ys = []
each2 f (x ∷ xs) [] = []

-- the last index of a box that is not empty
abbrev pub last_index : List ℕ → List ℕ → List ℕ
last_index start shape = each2 (λ s x. s + (x - 1)) start shape

-- the box ends below 2^64 in each dimension
abbrev pub EndsFit : List ℕ → List ℕ → Type 0
EndsFit start shape = (k : ℕ) → k < length start → slice_index start k + slice_index shape k < 2 ^ 64

-- each number fits 64 bits
abbrev pub IsSmall : List ℕ → Type 0
IsSmall place = (k : ℕ) → k < length place → slice_index place k < 2 ^ 64

-- the index is below the shape in each dimension
pub record IsIndex (index shape : List ℕ) : Type 0 where
  pub same : length index ≡ length shape
  pub below : (k : ℕ) → k < length shape → slice_index index k < slice_index shape k
