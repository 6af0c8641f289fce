-- Places of a box as seen from the start of one in which it lies.
use Rattle.std.proofs.Common.{◌≡◌, ◌∙◌, ℕ, zero, suc, ◌+◌, ◌-◌, ◌/◌, ◌%◌, ◌<◌, ◌≤◌, true, List, [], ◌∷◌, length, map, get_or, refl, sym, ap, arith, Some}
use Rattle.std.specs.List.{range_with_len, list_all}
use Rattle.std.proofs.lemmas.Bool.{leb-true, lt-ltb}
use Rattle.std.proofs.lemmas.List.{length-map, get_or-map}
use Rattle.std.proofs.lemmas.Simd.{map-map}
use Rattle.zarr_grids_boxes.specs.Boxes.{Region, product, places, place_at, ravel, each2, is_in_box}
use Rattle.zarr_grids_boxes.proofs.InBox.{in_box-place_at, ravel-place_at, place_at-number, length-places}
use Rattle.zarr_grids_boxes.proofs.Places.{both, places_by_number, map-range_shift}
use Rattle.zarr_grids_boxes.proofs.Walking.{get_or-places, start_in_box}
use Rattle.zarr_array_meaning.specs.Chunks.{number_in}
use Rattle.zarr_array_elements.specs.Boxes.{IsWithin}
use Rattle.zarr_array_elements.proofs.FixedCells.{number_below}

-- ---- lists of numbers, each at most the other's
abbrev pub AtMost : List ℕ → List ℕ → Type 0
AtMost [] [] = Unit {0}
AtMost [] (y ∷ ys) = ⊥
AtMost (x ∷ xs) [] = ⊥
AtMost (x ∷ xs) (y ∷ ys) = (x ≤ y) × AtMost xs ys

-- a place of a box is nowhere before its start
at_most_place : (ss es ps : List ℕ) → is_in_box ss es ps ≡ true → AtMost ss ps
at_most_place [] [] [] h = tt
at_most_place [] [] (p ∷ ps) h = absurd (cc)
at_most_place [] (e ∷ es) ps h = absurd (cc)
at_most_place (s ∷ ss) [] ps h = absurd (cc)
at_most_place (s ∷ ss) (e ∷ es) [] h = absurd (cc)
at_most_place (s ∷ ss) (e ∷ es) (p ∷ ps) h =
    let r = both _ _ h in
    let q = both _ _ r.0 in
    (leb-true s p q.0, at_most_place ss es ps r.1)

-- a place of a box as seen from an offset
pub place_at-shifted : (ss os es : List ℕ) (n : ℕ) → AtMost os ss → length ss ≡ length es → place_at (each2 (λ s o. s - o) ss os) es n ≡ each2 (λ p s. p - s) (place_at ss es n) os
place_at-shifted [] [] es n m l = refl
place_at-shifted [] (o ∷ os) es n m l = elim m [ ]
place_at-shifted (s ∷ ss) [] es n m l = elim m [ ]
place_at-shifted (s ∷ ss) (o ∷ os) [] n m l = absurd (omega arith)
place_at-shifted (s ∷ ss) (o ∷ os) (e ∷ es) n m l =
    let below = m.0 in
    let first : s - o + n / product es ≡ s + n / product es - o = omega arith in
    rw (first, place_at-shifted ss os es (n % product es) m.1 (omega arith)) refl

length-at_most : (xs ys : List ℕ) → AtMost xs ys → length ys ≡ length xs
length-at_most [] [] m = refl
length-at_most [] (y ∷ ys) m = elim m [ ]
length-at_most (x ∷ xs) [] m = elim m [ ]
length-at_most (x ∷ xs) (y ∷ ys) m = ap (λ n. suc n) (length-at_most xs ys m.1)

length-minus : (xs ys : List ℕ) → AtMost ys xs → length (each2 (λ s o. s - o) xs ys) ≡ length xs
length-minus [] [] m = refl
length-minus [] (y ∷ ys) m = elim m [ ]
length-minus (x ∷ xs) [] m = elim m [ ]
length-minus (x ∷ xs) (y ∷ ys) m = ap (λ n. suc n) (length-minus xs ys m.1)

-- ---- a box that is not empty and lies in another one

pub within_start : (wanted from : Region) → length wanted.shape ≡ length wanted.start → 0 < product wanted.shape → IsWithin wanted from → AtMost from.start wanted.start
within_start wanted from rank some inside = at_most_place from.start from.shape wanted.start (inside wanted.start (start_in_box wanted.start wanted.shape rank some))

-- the numbers of its places are those of its places as seen from the other's start
pub numbers_moved : (wanted from : Region) → length wanted.shape ≡ length wanted.start → 0 < product wanted.shape → IsWithin wanted from
    → map (λ place. ravel place from.shape) (places (each2 (λ s o. s - o) wanted.start from.start) wanted.shape) ≡ map (number_in from) (places wanted.start wanted.shape)
numbers_moved wanted from rank some inside =
    let low = within_start wanted from rank some inside in
    let moved = each2 (λ s o. s - o) wanted.start from.start in
    let count = product wanted.shape in
    let f = λ (place : List ℕ). ravel place from.shape in
    let long : length moved ≡ length wanted.shape = length-minus wanted.start from.start low ∙ sym rank in
    ap (map f) (places_by_number moved wanted.shape long)
    ∙ (map-map f (place_at moved wanted.shape) (range_with_len 0 count)
    ∙ (map-range_shift (λ n. f (place_at moved wanted.shape n)) (λ n. number_in from (place_at wanted.start wanted.shape n)) 0 0 count (λ i below. ap f (place_at-shifted wanted.start from.start wanted.shape (0 + i) low (sym rank)))
    ∙ (sym (map-map (number_in from) (place_at wanted.start wanted.shape) (range_with_len 0 count)) ∙ sym (ap (map (number_in from)) (places_by_number wanted.start wanted.shape (sym rank))))))

-- ---- the numbers of a box's places in another box

-- the numbers that the places of one box have in another one
abbrev pub numbers_there : Region → Region → List ℕ
numbers_there box at_box = map (number_in box) (places at_box.start at_box.shape)

pub length-there : (box at_box : Region) → length at_box.start ≡ length at_box.shape → length (numbers_there box at_box) ≡ product at_box.shape
length-there box at_box rank = length-map (places at_box.start at_box.shape) (number_in box) ∙ length-places at_box.start at_box.shape rank

pub number_there : (box at_box : Region) (k : ℕ) → length at_box.start ≡ length at_box.shape → k < product at_box.shape → get_or (numbers_there box at_box) k 0 ≡ number_in box (place_at at_box.start at_box.shape k)
number_there box at_box k rank below =
    get_or-map (number_in box) (places at_box.start at_box.shape) k [] 0 (omega (arith, below, length-places at_box.start at_box.shape rank))
    ∙ ap (number_in box) (get_or-places at_box.start at_box.shape k [] rank below)

-- the number of a place
pub number_of_place : (box at_box : Region) (place : List ℕ) → length at_box.start ≡ length at_box.shape → is_in_box at_box.start at_box.shape place ≡ true → get_or (numbers_there box at_box) (number_in at_box place) 0 ≡ number_in box place
number_of_place box at_box place rank t =
    number_there box at_box (number_in at_box place) rank (number_below at_box place t) ∙ ap (number_in box) (place_at-number at_box.start at_box.shape place t)

-- places of a box with one number are one
pub one_place : (box : Region) (place other : List ℕ) → is_in_box box.start box.shape place ≡ true → is_in_box box.start box.shape other ≡ true → number_in box place ≡ number_in box other → place ≡ other
one_place box place other t u e = sym (place_at-number box.start box.shape place t) ∙ (ap (place_at box.start box.shape) e ∙ place_at-number box.start box.shape other u)

-- each is below the number of the other's places
pub there_below : (box at_box : Region) (k : ℕ) → length at_box.start ≡ length at_box.shape → IsWithin at_box box → k < length (numbers_there box at_box) → get_or (numbers_there box at_box) k 0 < product box.shape
there_below box at_box k rank inside below =
    let low : k < product at_box.shape = omega (arith, below, length-there box at_box rank) in
    let place = place_at at_box.start at_box.shape k in
    let number = number_below box place (inside place (in_box-place_at at_box.start at_box.shape k rank low)) in
    omega (arith, number, number_there box at_box k rank low)
