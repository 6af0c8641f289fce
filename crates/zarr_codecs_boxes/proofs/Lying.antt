-- Which boxes lie in an array: those with a place, and those without one.
use Rattle.std.proofs.Common.{◌≡◌, ◌∙◌, ℕ, zero, suc, ◌+◌, ◌-◌, ◌<◌, List, [], ◌∷◌, length, get_or, slice_index, refl, sym, ap, arith, Bool, true, false, ◌&&◌, ◌==◌, ◌⊎◌, inl, inr}
use Rattle.std.specs.List.{list_all}
use Rattle.std.proofs.lemmas.Bool.{cases_Bool, eqb-true, eq-eqb, and_parts}
use Rattle.std.proofs.lemmas.List.Folds.{list_all_at}
use Rattle.zarr_grids_boxes.specs.Boxes.{Region, product, places, place_at, ravel, each2, is_in_box}
use Rattle.zarr_grids_boxes.proofs.Dimensions.{positive_at, ravel_below}
use Rattle.zarr_grids_boxes.proofs.Places.{in_box_below}
use Rattle.zarr_grids_boxes.proofs.InBox.{place_at-number, length-places}
use Rattle.zarr_grids_boxes.proofs.Walking.{get_or-places}
use Rattle.zarr_codecs_meaning.proofs.Covers.{zeros, length-zeros}
use Rattle.zarr_codecs_traits.specs.Indexers.{shape_has}
use Rattle.zarr_sharding_changes.specs.Regions.{IsInside}
use Rattle.zarr_sharding_changes.proofs.Subchunks.{place_within}
use Rattle.zarr_codecs_boxes.proofs.Boxes.{within_box, box_within}

pub some_or_none : (n : ℕ) → (0 < n) ⊎ (n ≡ 0)
some_or_none zero = inr refl
some_or_none (suc n) = inl (omega arith)

pub no_elements : {X : Type 0} (xs : List X) → length xs ≡ 0 → xs ≡ []
no_elements [] l = refl
no_elements (x ∷ xs) l = absurd (omega arith)

pub zeros_at : (ns : List ℕ) (k : ℕ) → slice_index (zeros ns) k ≡ 0
zeros_at [] k = refl
zeros_at (n ∷ ns) zero = refl
zeros_at (n ∷ ns) (suc k) = zeros_at ns k

-- ---- a test of each element

all_read : {X : Type 0} (test : X → Bool) (xs : List X) (d : X) → ((i : ℕ) → i < length xs → test (get_or xs i d) ≡ true) → list_all test xs ≡ true
all_read test [] d law = refl
all_read test (x ∷ xs) d law = ap (λ (b : Bool). b && list_all test xs) (law 0 (omega arith)) ∙ all_read test xs d (λ i low. law (suc i) (omega arith))

pub read_all : {X : Type 0} (test : X → Bool) (xs : List X) (i : ℕ) (d : X) → list_all test xs ≡ true → i < length xs → test (get_or xs i d) ≡ true
read_all test xs i d all low = elim (cases_Bool (test (get_or xs i d))) [
  | inl h ↦ h
  | inr h ↦ let no : true ≡ false = sym all ∙ list_all_at test xs i d low h in cc
]

-- ---- the last place of a box

abbrev last_of : List ℕ → List ℕ → List ℕ
last_of start lengths = each2 (λ s e. s + (e - 1)) start lengths

length-last : (ss es : List ℕ) → length es ≡ length ss → length (last_of ss es) ≡ length ss
length-last [] es l = refl
length-last (s ∷ ss) [] l = absurd (omega arith)
length-last (s ∷ ss) (e ∷ es) l = ap suc (length-last ss es (omega arith))

last_at : (ss es : List ℕ) (k : ℕ) → length es ≡ length ss → k < length ss → slice_index (last_of ss es) k ≡ slice_index ss k + (slice_index es k - 1)
last_at [] es k l low = absurd (omega arith)
last_at (s ∷ ss) [] k l low = absurd (omega arith)
last_at (s ∷ ss) (e ∷ es) zero l low = refl
last_at (s ∷ ss) (e ∷ es) (suc k) l low = last_at ss es k (omega arith) (omega arith)

last_in_box : (ss es : List ℕ) → length es ≡ length ss → 0 < product es → is_in_box ss es (last_of ss es) ≡ true
last_in_box ss es l some = within_box ss es (last_of ss es) l (length-last ss es l) (record {
  low = λ k low. let at_ = last_at ss es k l low in omega arith;
  high = λ k low. let at_ = last_at ss es k l low in let wide = positive_at es k (omega arith) some in omega arith;
})

-- ---- a box that lies in an array

pub lies_dimensions : (shape : List ℕ) (region : Region) → shape_has shape region ≡ true → length region.start ≡ length shape
lies_dimensions shape region h = eqb-true (length region.start) (length shape) (and_parts (length region.start == length shape) (list_all (λ (place : List ℕ). is_in_box (zeros shape) shape place) (places region.start region.shape)) h).0

lies_from : (shape : List ℕ) (region : Region) → length region.start ≡ length shape → list_all (λ (place : List ℕ). is_in_box (zeros shape) shape place) (places region.start region.shape) ≡ true → shape_has shape region ≡ true
lies_from shape region l all = ap (λ (b : Bool). b && list_all (λ (place : List ℕ). is_in_box (zeros shape) shape place) (places region.start region.shape)) (eq-eqb (length region.start) (length shape) l) ∙ all

-- where it has a place, each of its ends is at most the array's
pub lies_inside : (shape : List ℕ) (region : Region) → length region.shape ≡ length region.start → shape_has shape region ≡ true → 0 < product region.shape → IsInside region.start region.shape shape
lies_inside shape region dims lies some =
    let ss = region.start in
    let es = region.shape in
    let same = lies_dimensions shape region lies in
    let test = λ (place : List ℕ). is_in_box (zeros shape) shape place in
    let all = (and_parts (length ss == length shape) (list_all test (places ss es)) lies).1 in
    let p = last_of ss es in
    let h = last_in_box ss es dims some in
    let n = ravel (each2 (λ p s. p - s) p ss) es in
    let below : n < product es = ravel_below (each2 (λ p s. p - s) p ss) es (in_box_below ss es p h) in
    let here : get_or (places ss es) n [] ≡ p = get_or-places ss es n [] (sym dims) below ∙ place_at-number ss es p h in
    let lies_there : is_in_box (zeros shape) shape p ≡ true = sym (ap test here) ∙ read_all test (places ss es) n [] all (omega (arith, below, length-places ss es (sym dims))) in
    let within = box_within (zeros shape) shape p lies_there in
    record {
      starts = same;
      ends = dims ∙ same;
      below = λ k l.
          let high = within.high k (omega (arith, l, length-zeros shape)) in
          let at_ = last_at ss es k dims (omega (arith, l, same)) in
          let wide = positive_at es k (omega (arith, l, same, dims)) some in
          omega (arith, high, at_, wide, zeros_at shape k);
    }

pub inside_lies : (shape : List ℕ) (region : Region) → IsInside region.start region.shape shape → shape_has shape region ≡ true
inside_lies shape region within =
    let ss = region.start in
    let es = region.shape in
    let same : length ss ≡ length es = let one = within.starts in let two = within.ends in omega arith in
    lies_from shape region within.starts (all_read (λ (place : List ℕ). is_in_box (zeros shape) shape place) (places ss es) [] (λ i low.
    let below : i < product es = omega (arith, low, length-places ss es same) in
    let p = place_at ss es i in
    let index = place_within ss es shape i within below in
    ap (λ (place : List ℕ). is_in_box (zeros shape) shape place) (get_or-places ss es i [] same below)
    ∙ within_box (zeros shape) shape p (sym (length-zeros shape)) (index.same ∙ sym (length-zeros shape)) (record {
      low = λ k l. let z = zeros_at shape k in omega arith;
      high = λ k l. let z = zeros_at shape k in let b = index.below k (omega (arith, l, length-zeros shape)) in omega arith;
    })))

-- a box with no place lies in each array of as many dimensions
pub empty_lies : (shape : List ℕ) (region : Region) → length region.start ≡ length shape → length region.shape ≡ length region.start → product region.shape ≡ 0 → shape_has shape region ≡ true
empty_lies shape region same dims none =
    lies_from shape region same (ap (list_all (λ (place : List ℕ). is_in_box (zeros shape) shape place)) (no_elements (places region.start region.shape) (length-places region.start region.shape (sym dims) ∙ none)))
