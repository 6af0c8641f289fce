-- What a walk over the places of a box has left.
use Rattle.std.proofs.Common.{◌≡◌, ℕ, zero, suc, ◌+◌, ◌-◌, ◌*◌, ◌/◌, ◌%◌, ◌<◌, ◌≤◌, ◌^◌, Bool, true, false, cond, not, IsTrue, List, [], ◌∷◌, length, get_or, map, drop, refl, sym, ap, ◌∙◌, arith}
use Rattle.std.proofs.Math.Nat.{mul-le-mul}
use Rattle.std.proofs.lemmas.Bool.{le-leb, lt-ltb}
use Rattle.std.proofs.lemmas.List.{drop_more, drop_all, length-map, get_or-map}
use Rattle.std.proofs.lemmas.List.FromFn.{get_or-map-range_with_len}
use Rattle.zarr_grids_boxes.specs.Boxes.{product, places, place_at, ravel, each2, is_in_box, IsIndex}
use Rattle.zarr_grids_boxes.specs.Cuts.{IsAtMost}
use Rattle.zarr_grids_boxes.proofs.Building.{ends_at_most}
use Rattle.zarr_grids_boxes.proofs.Dimensions.{place_at-drop, positive-drop, positive-drop_all, ravel_below}
use Rattle.zarr_grids_boxes.proofs.InBox.{length-places, place_at-number}
use Rattle.zarr_grids_boxes.proofs.Numbers.{one_digit_more, front_below}
use Rattle.zarr_grids_boxes.proofs.Places.{places_by_number, length-place_at, place_at_below}
use Rattle.zarr_grids_boxes.proofs.Steps.{in_box_same, number_in_grid}

-- ---- the places from one on
pub get_or-places : (ss es : List ℕ) (n : ℕ) (d : List ℕ) → length ss ≡ length es → n < product es → get_or (places ss es) n d ≡ place_at ss es n
get_or-places ss es n d l h = ap (λ ps. get_or ps n d) (places_by_number ss es l) ∙ get_or-map-range_with_len (place_at ss es) 0 (product es) n n d h (omega arith)

pub places_from : (ss es : List ℕ) (n : ℕ) → length ss ≡ length es → n < product es → drop n (places ss es) ≡ place_at ss es n ∷ drop (n + 1) (places ss es)
places_from ss es n l h =
    let k : n < length (places ss es) = omega (arith, length-places ss es l) in
    drop_more (places ss es) n [] k ∙ ap (λ p. p ∷ drop (n + 1) (places ss es)) (get_or-places ss es n [] l h)

pub places_from_place : (ss es ps : List ℕ) (n : ℕ) → is_in_box ss es ps ≡ true → n ≡ ravel (each2 (λ p s. p - s) ps ss) es → drop n (places ss es) ≡ ps ∷ drop (n + 1) (places ss es)
places_from_place ss es ps n h e =
    let l = (in_box_same ss es ps h).0 in
    let b = number_in_grid ss es ps h in
    let f = places_from ss es n (sym l) (omega arith) in
    f ∙ ap (λ p. p ∷ drop (n + 1) (places ss es)) (ap (place_at ss es) e ∙ place_at-number ss es ps h)

pub places_past : (ss es : List ℕ) (n : ℕ) → length ss ≡ length es → product es ≤ n → drop n (places ss es) ≡ []
places_past ss es n l h = drop_all n (places ss es) (omega (arith, length-places ss es l))

-- ---- the numbers of the places from one on
pub numbers_from : (f : List ℕ → ℕ) (ss es : List ℕ) (n : ℕ) → length ss ≡ length es → n < product es → drop n (map f (places ss es)) ≡ f (place_at ss es n) ∷ drop (n + 1) (map f (places ss es))
numbers_from f ss es n l h =
    let k : n < length (map f (places ss es)) = omega (arith, length-places ss es l, length-map (places ss es) f) in
    drop_more (map f (places ss es)) n (f []) k ∙ ap (λ p. p ∷ drop (n + 1) (map f (places ss es))) (get_or-map f (places ss es) n [] (f []) (omega (arith, length-places ss es l)) ∙ ap f (get_or-places ss es n [] l h))

pub numbers_past : (f : List ℕ → ℕ) (ss es : List ℕ) (n : ℕ) → length ss ≡ length es → product es ≤ n → drop n (map f (places ss es)) ≡ []
numbers_past f ss es n l h = drop_all n (map f (places ss es)) (omega (arith, length-places ss es l, length-map (places ss es) f))

-- ---- a box inside an array
pub product_at_most : (es ns : List ℕ) → length es ≡ length ns → ((k : ℕ) → k < length es → get_or es k 0 ≤ get_or ns k 0) → product es ≤ product ns
product_at_most [] [] l h = omega arith
product_at_most [] (n ∷ ns) l h = absurd (omega arith)
product_at_most (e ∷ es) [] l h = absurd (omega arith)
product_at_most (e ∷ es) (n ∷ ns) l h = mul-le-mul (h zero (omega arith)) (product_at_most es ns (omega arith) (λ k g. h (suc k) (omega arith)))

pub box_at_most : (ss es ns : List ℕ) → length es ≡ length ss → IsAtMost (each2 (λ s e. s + e) ss es) ns → product es ≤ product ns
box_at_most ss es ns l m =
    let a = ends_at_most ss es ns l m in
    let same = a.0 in
    product_at_most es ns (omega arith) (λ k g. let b = a.1 k (omega arith) in omega arith)

pub place_index : (ss es ns : List ℕ) (n : ℕ) → length es ≡ length ss → IsAtMost (each2 (λ s e. s + e) ss es) ns → n < product es → IsIndex (place_at ss es n) ns
place_index ss es ns n l m h =
    let a = ends_at_most ss es ns l m in
    let same = a.0 in
    let len = length-place_at ss es n (sym l) in
    record {
      same = omega arith;
      below = λ k g. let k' : k < length ss = omega arith in let b = place_at_below ss es n k (sym l) h k' in let c = a.1 k k' in omega arith;
    }

-- the number of a place, one dimension after another
pub place_number_more : (ss es ns : List ℕ) (k r number total : ℕ) → k < length ss → k < length es → k < length ns →
    number * product (drop k ns) + ravel (place_at (drop k ss) (drop k es) r) (drop k ns) ≡ total →
    (number * get_or ns k 0 + (get_or ss k 0 + r / product (drop (k + 1) es))) * product (drop (k + 1) ns) + ravel (place_at (drop (k + 1) ss) (drop (k + 1) es) (r % product (drop (k + 1) es))) (drop (k + 1) ns) ≡ total
place_number_more ss es ns k r number total a b c h =
    one_digit_more number (get_or ns k 0) (product (drop (k + 1) ns)) (get_or ss k 0 + r / product (drop (k + 1) es)) (ravel (place_at (drop (k + 1) ss) (drop (k + 1) es) (r % product (drop (k + 1) es))) (drop (k + 1) ns)) total
    (rw (place_at-drop ss es k r a b, drop_more ns k 0) at h)

pub number_fits : (ss es ns : List ℕ) (n k r number : ℕ) → length es ≡ length ss → IsAtMost (each2 (λ s e. s + e) ss es) ns → product ns < 2 ^ 64 → n < product es → k < length ss →
    number * product (drop k ns) + ravel (place_at (drop k ss) (drop k es) r) (drop k ns) ≡ ravel (place_at ss es n) ns →
    number * get_or ns k 0 + (get_or ss k 0 + r / product (drop (k + 1) es)) < 2 ^ 64
number_fits ss es ns n k r number l m small h a e =
    let i = place_index ss es ns n l m h in
    let b = ravel_below (place_at ss es n) ns i in
    let p : 0 < product ns = omega arith in
    let len = (ends_at_most ss es ns l m).0 in
    let ke : k < length es = omega arith in
    let kn : k < length ns = omega arith in
    let q = positive-drop_all ns (k + 1) (omega arith) p in
    front_below _ _ _ _ (2 ^ 64) q (place_number_more ss es ns k r number _ a ke kn e) (omega arith)

-- a walk that passes over a place
pub walk_on : (ss es ps qs : List ℕ) (more : Bool) → is_in_box ss es ps ≡ true →
    (IsTrue more → ravel (each2 (λ p s. p - s) qs ss) es ≡ ravel (each2 (λ p s. p - s) ps ss) es + 1) →
    ((¬ IsTrue more) → ravel (each2 (λ p s. p - s) ps ss) es + 1 ≡ product es) →
    drop (ravel (each2 (λ p s. p - s) ps ss) es) (places ss es) ≡ ps ∷ cond more (drop (ravel (each2 (λ p s. p - s) qs ss) es) (places ss es)) []
walk_on ss es ps qs true h a b = places_from_place ss es ps _ h refl ∙ ap (λ n. ps ∷ drop n (places ss es)) (sym (a refl))
walk_on ss es ps qs false h a b =
    let l = (in_box_same ss es ps h).0 in
    places_from_place ss es ps _ h refl ∙ ap (λ ys. ps ∷ ys) (places_past ss es _ (sym l) (let e = b (λ t. absurd (cc)) in omega arith))

-- ---- the walk from the start of a box
pub start_in_box : (ss es : List ℕ) → length es ≡ length ss → 0 < product es → is_in_box ss es ss ≡ true
start_in_box [] [] l p = refl
start_in_box [] (e ∷ es) l p = absurd (omega arith)
start_in_box (s ∷ ss) [] l p = absurd (omega arith)
start_in_box (s ∷ ss) (e ∷ es) l p =
    let t = positive-drop (e ∷ es) 0 (omega arith) p in
    let q = t.0 in
    rw (le-leb s s (omega arith), lt-ltb s (s + e) (omega arith)) (start_in_box ss es (omega arith) t.1)

number_of_start : (ss es : List ℕ) → length es ≡ length ss → ravel (each2 (λ p s. p - s) ss ss) es ≡ 0
number_of_start [] es l = refl
number_of_start (s ∷ ss) [] l = absurd (omega arith)
number_of_start (s ∷ ss) (e ∷ es) l = let z : s - s ≡ 0 = omega arith in let i = number_of_start ss es (omega arith) in rw (z, i) (omega arith)

pub walk_new : (ss es qs : List ℕ) (none : Bool) → qs ≡ ss → length es ≡ length ss → (IsTrue none → product es ≡ 0) → (product es ≡ 0 → IsTrue none) →
    (IsTrue (not none) → is_in_box ss es qs ≡ true) × (cond (not none) (drop (ravel (each2 (λ p s. p - s) qs ss) es) (places ss es)) [] ≡ places ss es)
walk_new ss es qs true q l a b = let z = a refl in (λ t. absurd (cc), sym (places_past ss es 0 (sym l) (omega arith)))
walk_new ss es qs false q l a b =
    let f : product es ≡ 0 → ⊥ = λ z. let t = b z in absurd (cc) in
    (λ t. rw q (start_in_box ss es l (omega arith)), rw q (ap (λ n. drop n (places ss es)) (number_of_start ss es l)))

pub number_whole : (ss es ns : List ℕ) (k r number total : ℕ) → length ss ≤ k → length ns ≤ k → number * product (drop k ns) + ravel (place_at (drop k ss) (drop k es) r) (drop k ns) ≡ total → number ≡ total
number_whole ss es ns k r number total a b e =
    let e' = rw (drop_all k ss a, drop_all k ns b) at e in omega arith
