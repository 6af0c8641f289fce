-- Which boxes lie in an array.
use Rattle.std.proofs.Common.{◌≡◌, ◌∙◌, ℕ, zero, suc, ◌+◌, ◌-◌, ◌*◌, ◌<◌, ◌≤◌, Bool, true, false, ◌&&◌, ◌==◌, List, [], ◌∷◌, length, get_or, refl, sym, ap, arith}
use Rattle.std.specs.List.{range_with_len, list_all}
use Rattle.std.proofs.Math.Dec.{leb, ltb}
use Rattle.std.proofs.Math.Nat.{mul-le-mul, mul-le-mul_right, le-mul_of_pos_right}
use Rattle.std.proofs.lemmas.Bool.{le-leb, lt-ltb, ltb-true, eqb-true, eq-eqb, and_parts}
use Rattle.std.proofs.lemmas.Bool.Decides.{same_from_decides}
use Rattle.std.proofs.lemmas.List.Folds.{list_all_at, list_all-map}
use Rattle.zarr_grids_boxes.specs.Boxes.{Region, product, places, place_at, ravel, each2, is_in_box}
use Rattle.zarr_grids_boxes.specs.Cuts.{ends, IsAtMost}
use Rattle.zarr_grids_boxes.proofs.Dimensions.{positive-drop, ravel_below}
use Rattle.zarr_grids_boxes.proofs.Places.{in_box_below, places_by_number}
use Rattle.zarr_grids_boxes.proofs.InBox.{in_box-place_at, place_at-number, length-places}
use Rattle.zarr_grids_boxes.proofs.Walking.{get_or-places, start_in_box}
use Rattle.zarr_codecs_meaning.proofs.Covers.{zeros}
use Rattle.zarr_codecs_traits.specs.Indexers.{shape_has}

-- ---- a test of each place of a box

all_numbers : (test : ℕ → Bool) (a n : ℕ) → ((i : ℕ) → i < n → test (a + i) ≡ true) → list_all test (range_with_len a n) ≡ true
all_numbers test a zero law = refl
all_numbers test a (suc n) law =
    let start : a ≡ a + 0 = omega arith in
    let first : test a ≡ true = ap test start ∙ law 0 (omega arith) in
    ap (λ (b : Bool). b && list_all test (range_with_len (a + 1) n)) first
    ∙ all_numbers test (a + 1) n (λ i below. let e : a + 1 + i ≡ a + suc i = omega arith in ap test e ∙ law (suc i) (omega arith))

pub all_places : (test : List ℕ → Bool) (ss es : List ℕ) → length ss ≡ length es → ((p : List ℕ) → is_in_box ss es p ≡ true → test p ≡ true) → list_all test (places ss es) ≡ true
all_places test ss es l law =
    ap (list_all test) (places_by_number ss es l) ∙ (list_all-map test (place_at ss es) (range_with_len 0 (product es))
    ∙ all_numbers (λ n. test (place_at ss es n)) 0 (product es) (λ i below. let e : 0 + i ≡ i = omega arith in ap (λ n. test (place_at ss es n)) e ∙ law (place_at ss es i) (in_box-place_at ss es i l below)))

true_or_false : (b : Bool) → (b ≡ false → ⊥) → b ≡ true
true_or_false true h = refl
true_or_false false h = absurd (h refl)

pub each_place : (test : List ℕ → Bool) (ss es p : List ℕ) → length ss ≡ length es → list_all test (places ss es) ≡ true → is_in_box ss es p ≡ true → test p ≡ true
each_place test ss es p l all h =
    let n = ravel (each2 (λ p s. p - s) p ss) es in
    let below : n < product es = ravel_below (each2 (λ p s. p - s) p ss) es (in_box_below ss es p h) in
    let here : get_or (places ss es) n [] ≡ p = get_or-places ss es n [] l below ∙ place_at-number ss es p h in
    true_or_false (test p) (λ no. let e = list_all_at test (places ss es) n [] (omega (arith, below, length-places ss es l)) (ap test here ∙ no) in cc)

-- ---- a box whose ends are at most those of the array

IsAtMost-tail : (x y : ℕ) (xs ys : List ℕ) → IsAtMost (x ∷ xs) (y ∷ ys) → IsAtMost xs ys
IsAtMost-tail x y xs ys h = record { same = let s = h.same in omega arith; each = λ k l. h.each (suc k) (omega arith) }

IsAtMost-cons : (x y : ℕ) (xs ys : List ℕ) → x ≤ y → IsAtMost xs ys → IsAtMost (x ∷ xs) (y ∷ ys)
IsAtMost-cons x y xs ys h t = record { same = ap suc t.same; each = step } where
  step : (k : ℕ) → k < length (y ∷ ys) → get_or (x ∷ xs) k 0 ≤ get_or (y ∷ ys) k 0
  step zero l = h
  step (suc k) l = t.each k (omega arith)

-- its places are the array's
pub in_array : (ss es ns p : List ℕ) → IsAtMost (each2 (λ s e. s + e) ss es) ns → is_in_box ss es p ≡ true → is_in_box (zeros ns) ns p ≡ true
in_array [] [] [] [] most h = refl
in_array [] [] [] (p ∷ ps) most h = absurd (cc)
in_array [] [] (n ∷ ns) ps most h = let s = most.same in absurd (omega arith)
in_array [] (e ∷ es) ns ps most h = absurd (cc)
in_array (s ∷ ss) [] ns ps most h = absurd (cc)
in_array (s ∷ ss) (e ∷ es) [] ps most h = let s = most.same in absurd (omega arith)
in_array (s ∷ ss) (e ∷ es) (n ∷ ns) [] most h = absurd (cc)
in_array (s ∷ ss) (e ∷ es) (n ∷ ns) (p ∷ ps) most h =
    let parts = and_parts (leb s p && ltb p (s + e)) (is_in_box ss es ps) h in
    let first = and_parts (leb s p) (ltb p (s + e)) parts.0 in
    let below = ltb-true p (s + e) first.1 in
    let end : s + e ≤ n = most.each 0 (omega arith) in
    let a : leb 0 p ≡ true = le-leb 0 p (omega arith) in
    let b : ltb p (0 + n) ≡ true = lt-ltb p (0 + n) (omega arith) in
    rw (a, b, in_array ss es ns ps (IsAtMost-tail (s + e) n (each2 (λ s e. s + e) ss es) ns most) parts.1) refl

-- where it has a place, and its places are the array's, its ends are at most those of the array
pub ends_at_most : (ss es ns : List ℕ) → length es ≡ length ss → length ns ≡ length ss → 0 < product es → ((p : List ℕ) → is_in_box ss es p ≡ true → is_in_box (zeros ns) ns p ≡ true) → IsAtMost (each2 (λ s e. s + e) ss es) ns
ends_at_most [] [] [] l m some law = record { same = refl; each = λ k below. absurd (omega arith) }
ends_at_most [] [] (n ∷ ns) l m some law = absurd (omega arith)
ends_at_most [] (e ∷ es) ns l m some law = absurd (omega arith)
ends_at_most (s ∷ ss) [] ns l m some law = absurd (omega arith)
ends_at_most (s ∷ ss) (e ∷ es) [] l m some law = absurd (omega arith)
ends_at_most (s ∷ ss) (e ∷ es) (n ∷ ns) l m some law =
    let t = positive-drop (e ∷ es) 0 (omega arith) some in
    let e_some : 0 < e = t.0 in
    let rest = start_in_box ss es (omega arith) t.1 in
    let last : is_in_box (s ∷ ss) (e ∷ es) ((s + (e - 1)) ∷ ss) ≡ true =
    let a : leb s (s + (e - 1)) ≡ true = le-leb s (s + (e - 1)) (omega arith) in
    let b : ltb (s + (e - 1)) (s + e) ≡ true = lt-ltb (s + (e - 1)) (s + e) (omega arith) in
    rw (a, b, rest) refl in
    let found = and_parts (leb 0 (s + (e - 1)) && ltb (s + (e - 1)) (0 + n)) (is_in_box (zeros ns) ns ss) (law ((s + (e - 1)) ∷ ss) last) in
    let within = ltb-true (s + (e - 1)) (0 + n) (and_parts (leb 0 (s + (e - 1))) (ltb (s + (e - 1)) (0 + n)) found.0).1 in
    IsAtMost-cons (s + e) n (each2 (λ s e. s + e) ss es) ns (omega arith)
    (ends_at_most ss es ns (omega arith) (omega arith) t.1 (λ p h.
    let a : leb s s ≡ true = le-leb s s (omega arith) in
    let b : ltb s (s + e) ≡ true = lt-ltb s (s + e) (omega arith) in
    let here : is_in_box (s ∷ ss) (e ∷ es) (s ∷ p) ≡ true = rw (a, b, h) refl in
    (and_parts (leb 0 s && ltb s (0 + n)) (is_in_box (zeros ns) ns p) (law (s ∷ p) here)).1))

-- ---- whether a box lies in an array

pub inside_rank : (shape : List ℕ) (region : Region) → shape_has shape region ≡ true → length region.start ≡ length shape
inside_rank shape region h = eqb-true (length region.start) (length shape) (and_parts (length region.start == length shape) (list_all (is_in_box (zeros shape) shape) (places region.start region.shape)) h).0

pub inside_places : (shape : List ℕ) (region : Region) → shape_has shape region ≡ true → list_all (λ place. is_in_box (zeros shape) shape place) (places region.start region.shape) ≡ true
inside_places shape region h = (and_parts (length region.start == length shape) (list_all (is_in_box (zeros shape) shape) (places region.start region.shape)) h).1

-- a box with no place lies in each array of as many dimensions
pub empty_inside : (shape : List ℕ) (region : Region) → length region.shape ≡ length region.start → length region.start ≡ length shape → product region.shape ≡ 0 → true ≡ shape_has shape region
empty_inside shape region l m none =
    sym (ap (λ (b : Bool). b && list_all (is_in_box (zeros shape) shape) (places region.start region.shape)) (eq-eqb (length region.start) (length shape) m)
    ∙ ap (list_all (is_in_box (zeros shape) shape)) (no_elements (places region.start region.shape) (length-places region.start region.shape (sym l) ∙ none))) where
      no_elements : (ps : List (List ℕ)) → length ps ≡ 0 → ps ≡ []
      no_elements [] h = refl
      no_elements (p ∷ ps) h = absurd (omega arith)

-- a box with a place lies in an array where its ends are at most those of the array
pub ends_inside : (shape : List ℕ) (region : Region) (b : Bool) → length region.shape ≡ length region.start → length region.start ≡ length shape → (product region.shape ≡ 0 → ⊥) → (b ≡ true → IsAtMost (ends region) shape) → (IsAtMost (ends region) shape → b ≡ true) → b ≡ shape_has shape region
ends_inside shape region b l m some there back =
    let test = is_in_box (zeros shape) shape in
    same_from_decides b (list_all test (places region.start region.shape)) (there, back) (
      λ all. ends_at_most region.start region.shape shape l (sym m) (omega arith) (λ p h. each_place test region.start region.shape p (sym l) all h),
      λ most. all_places test region.start region.shape (sym l) (λ p h. in_array region.start region.shape shape p most h),
    )
    ∙ sym (ap (λ (same : Bool). same && list_all test (places region.start region.shape)) (eq-eqb (length region.start) (length shape) m))

-- a box that lies in an array has no more places than it
at_most_product : (ss es ns : List ℕ) → length es ≡ length ss → IsAtMost (each2 (λ s e. s + e) ss es) ns → product es ≤ product ns
at_most_product [] [] [] l most = omega arith
at_most_product [] [] (n ∷ ns) l most = let s = most.same in absurd (omega arith)
at_most_product [] (e ∷ es) ns l most = absurd (omega arith)
at_most_product (s ∷ ss) [] ns l most = absurd (omega arith)
at_most_product (s ∷ ss) (e ∷ es) [] l most = let s = most.same in absurd (omega arith)
at_most_product (s ∷ ss) (e ∷ es) (n ∷ ns) l most =
    let end : s + e ≤ n = most.each 0 (omega arith) in
    mul-le-mul (let h : e ≤ n = omega arith in h) (at_most_product ss es ns (omega arith) (IsAtMost-tail (s + e) n (each2 (λ s e. s + e) ss es) ns most))

pub inside_product : (shape : List ℕ) (region : Region) → length region.shape ≡ length region.start → shape_has shape region ≡ true → product region.shape ≤ product shape
inside_product shape region l inside = by_count (product region.shape) refl where
  by_count : (n : ℕ) → product region.shape ≡ n → product region.shape ≤ product shape
  by_count zero e = omega arith
  by_count (suc n) e =
      at_most_product region.start region.shape shape l
      (ends_at_most region.start region.shape shape l (sym (inside_rank shape region inside)) (omega arith)
      (λ p h. each_place (is_in_box (zeros shape) shape) region.start region.shape p (sym l) (inside_places shape region inside) h))

-- its elements have no more bytes than the array's
pub inside_bytes : (shape : List ℕ) (region : Region) (width : ℕ) → length region.shape ≡ length region.start → shape_has shape region ≡ true → product region.shape * width ≤ product shape * width
inside_bytes shape region width l inside = mul-le-mul_right width (inside_product shape region l inside)

pub inside_count : (shape : List ℕ) (region : Region) (width : ℕ) → length region.shape ≡ length region.start → shape_has shape region ≡ true → 0 < width → product region.shape ≤ product shape * width
inside_count shape region width l inside some = let h = inside_product shape region l inside in let m = le-mul_of_pos_right (product shape) some in omega arith
