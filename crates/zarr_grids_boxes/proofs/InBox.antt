-- Which places lie in a box, and their numbers.
use Rattle.std.proofs.Common.{◌≡◌, ◌∙◌, ℕ, ◌+◌, ◌-◌, ◌/◌, ◌%◌, ◌<◌, true, List, [], ◌∷◌, length, map, refl, sym, ap, arith}
use Rattle.std.specs.List.{range_with_len}
use Rattle.std.proofs.Math.Dec.{leb, ltb}
use Rattle.std.proofs.lemmas.Bool.{le-leb, lt-ltb, leb-true}
use Rattle.std.proofs.lemmas.List.FromFn.{length-map-range_with_len}
use Rattle.std.proofs.lemmas.Nat.{mod_below, div_below, div-mul-add, mod-mul-add, div-add-mod'}
use Rattle.std.proofs.lemmas.Simd.{map-map}
use Rattle.zarr_grids_boxes.specs.Boxes.{product, places, place_at, ravel, each2, is_in_box, IsSmall, EndsFit}
use Rattle.zarr_grids_boxes.proofs.Dimensions.{positive-drop, ravel_below}
use Rattle.zarr_grids_boxes.proofs.Places.{places_by_number, both, in_box_below, map-range_shift, place_at_below, length-place_at}

-- ---- the places of a box by number
pub ravel-place_at : (ss es : List ℕ) (n : ℕ) → length ss ≡ length es → n < product es → ravel (each2 (λ p s. p - s) (place_at ss es n) ss) es ≡ n
ravel-place_at [] [] n l h = omega arith
ravel-place_at [] (e ∷ es) n l h = absurd (omega arith)
ravel-place_at (s ∷ ss) [] n l h = absurd (omega arith)
ravel-place_at (s ∷ ss) (e ∷ es) n l h =
    let p : 0 < product (e ∷ es) = omega arith in
    let t = positive-drop (e ∷ es) 0 (omega arith) p in
    let i = ravel-place_at ss es (n % product es) (omega arith) (mod_below n (product es) t.1) in
    let d : s + n / product es - s ≡ n / product es = omega arith in
    rw (d, i) (div-add-mod' n (product es))

pub in_box-place_at : (ss es : List ℕ) (n : ℕ) → length ss ≡ length es → n < product es → is_in_box ss es (place_at ss es n) ≡ true
in_box-place_at [] [] n l h = refl
in_box-place_at [] (e ∷ es) n l h = absurd (omega arith)
in_box-place_at (s ∷ ss) [] n l h = absurd (omega arith)
in_box-place_at (s ∷ ss) (e ∷ es) n l h =
    let p : 0 < product (e ∷ es) = omega arith in
    let t = positive-drop (e ∷ es) 0 (omega arith) p in
    let i = in_box-place_at ss es (n % product es) (omega arith) (mod_below n (product es) t.1) in
    let b = div_below n (product es) e t.1 h in
    let a : leb s (s + n / product es) ≡ true = le-leb s (s + n / product es) (omega arith) in
    let c : ltb (s + n / product es) (s + e) ≡ true = lt-ltb (s + n / product es) (s + e) (omega arith) in
    rw (a, c, i) refl

-- a place of the box is the one with its number
pub place_at-number : (ss es ps : List ℕ) → is_in_box ss es ps ≡ true → place_at ss es (ravel (each2 (λ p s. p - s) ps ss) es) ≡ ps
place_at-number [] [] [] h = refl
place_at-number [] [] (p ∷ ps) h = absurd (cc)
place_at-number [] (e ∷ es) ps h = absurd (cc)
place_at-number (s ∷ ss) [] ps h = absurd (cc)
place_at-number (s ∷ ss) (e ∷ es) [] h = absurd (cc)
place_at-number (s ∷ ss) (e ∷ es) (p ∷ ps) h =
    let r = both _ _ h in
    let q = both _ _ r.0 in
    let from = leb-true s p q.0 in
    let t = in_box_below ss es ps r.1 in
    let b = ravel_below (each2 (λ p s. p - s) ps ss) es t in
    let d = div-mul-add (p - s) (product es) (ravel (each2 (λ p s. p - s) ps ss) es) b in
    let m = mod-mul-add (p - s) (product es) (ravel (each2 (λ p s. p - s) ps ss) es) b in
    let z : s + (p - s) ≡ p = omega arith in
    rw (d, m, z, place_at-number ss es ps r.1) refl

pub length-places : (ss es : List ℕ) → length ss ≡ length es → length (places ss es) ≡ product es
length-places ss es l = ap length (places_by_number ss es l) ∙ length-map-range_with_len (place_at ss es) 0 (product es)

-- two functions that agree on the places of a box
pub map-places : (f g : List ℕ → ℕ) (ss es : List ℕ) → length ss ≡ length es → ((n : ℕ) → n < product es → f (place_at ss es n) ≡ g (place_at ss es n)) → map f (places ss es) ≡ map g (places ss es)
map-places f g ss es l h =
    ap (map f) (places_by_number ss es l) ∙ map-map f (place_at ss es) (range_with_len 0 (product es))
    ∙ map-range_shift (λ n. f (place_at ss es n)) (λ n. g (place_at ss es n)) 0 0 (product es) (λ i k. let z : 0 + i ≡ i = omega arith in ap (λ n. f (place_at ss es n)) z ∙ h i k ∙ sym (ap (λ n. g (place_at ss es n)) z))
    ∙ sym (ap (map g) (places_by_number ss es l) ∙ map-map g (place_at ss es) (range_with_len 0 (product es)))

pub IsSmall-place_at : (ss es : List ℕ) (n : ℕ) → length ss ≡ length es → EndsFit ss es → n < product es → IsSmall (place_at ss es n)
IsSmall-place_at ss es n l fit h k g =
    let m = length-place_at ss es n l in
    let j : k < length ss = omega arith in
    let b = place_at_below ss es n k l h j in
    let f = fit k j in
    omega arith
