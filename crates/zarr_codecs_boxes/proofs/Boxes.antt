-- Which places lie in a box, dimension by dimension; and a box put over an array that an array codec moves.
use Rattle.std.proofs.Common.{◌≡◌, ℕ, zero, suc, ◌+◌, ◌-◌, ◌<◌, ◌≤◌, List, [], ◌∷◌, length, map, slice_index, ap, ◌∙◌, sym, refl, arith, Bool, true, false, ◌&&◌, if◌then◌else◌}
use Rattle.std.proofs.Math.Dec.{leb, ltb}
use Rattle.std.proofs.lemmas.Bool.{le-leb, lt-ltb, leb-true, ltb-true, and_parts}
use Rattle.zarr_grids_boxes.specs.Boxes.{is_in_box, each2}

-- a place lies between the start and the end of a box in each dimension
pub record IsWithin (start lengths place : List ℕ) : Type 0 where
  pub low : (k : ℕ) → k < length start → slice_index start k ≤ slice_index place k
  pub high : (k : ℕ) → k < length start → slice_index place k < slice_index start k + slice_index lengths k

pub within_box : (ss es ps : List ℕ) → length es ≡ length ss → length ps ≡ length ss → IsWithin ss es ps → is_in_box ss es ps ≡ true
within_box [] [] [] l m h = refl
within_box [] [] (p ∷ ps) l m h = absurd (omega arith)
within_box [] (e ∷ es) ps l m h = absurd (omega arith)
within_box (s ∷ ss) [] ps l m h = absurd (omega arith)
within_box (s ∷ ss) (e ∷ es) [] l m h = absurd (omega arith)
within_box (s ∷ ss) (e ∷ es) (p ∷ ps) l m h =
    let a : leb s p ≡ true = le-leb s p (h.low 0 (omega arith)) in
    let b : ltb p (s + e) ≡ true = lt-ltb p (s + e) (h.high 0 (omega arith)) in
    rw (a, b, within_box ss es ps (omega arith) (omega arith) (record { low = λ k k_low. h.low (suc k) (omega arith); high = λ k k_low. h.high (suc k) (omega arith) })) refl

pub box_within : (ss es ps : List ℕ) → is_in_box ss es ps ≡ true → IsWithin ss es ps
box_within [] es ps h = record { low = λ k l. absurd (omega arith); high = λ k l. absurd (omega arith) }
box_within (s ∷ ss) [] ps h = absurd (cc)
box_within (s ∷ ss) (e ∷ es) [] h = absurd (cc)
box_within (s ∷ ss) (e ∷ es) (p ∷ ps) h =
    let parts = and_parts (leb s p && ltb p (s + e)) (is_in_box ss es ps) h in
    let first = and_parts (leb s p) (ltb p (s + e)) parts.0 in
    let from = leb-true s p first.0 in
    let below = ltb-true p (s + e) first.1 in
    let rest = box_within ss es ps parts.1 in
    record { low = low from rest; high = high below rest } where
      low : s ≤ p → IsWithin ss es ps → (k : ℕ) → k < length (s ∷ ss) → slice_index (s ∷ ss) k ≤ slice_index (p ∷ ps) k
      low from rest zero l = from
      low from rest (suc k) l = rest.low k (omega arith)

      high : p < s + e → IsWithin ss es ps → (k : ℕ) → k < length (s ∷ ss) → slice_index (p ∷ ps) k < slice_index (s ∷ ss) k + slice_index (e ∷ es) k
      high below rest zero l = below
      high below rest (suc k) l = rest.high k (omega arith)

-- tests that imply each other
pub same_tests : (a b : Bool) → (a ≡ true → b ≡ true) → (b ≡ true → a ≡ true) → a ≡ b
same_tests true b there back = sym (there refl)
same_tests false true there back = back refl
same_tests false false there back = refl

-- a choice by tests that are alike, between values that are alike where they pass
pub same_choice : {X : Type 0} (a b : Bool) (x y other : X) → a ≡ b → (a ≡ true → x ≡ y) → (if a then x else other) ≡ (if b then y else other)
same_choice true true x y other e law = law refl
same_choice true false x y other e law = cc
same_choice false true x y other e law = cc
same_choice false false x y other e law = refl

-- ---- a place as seen from the start of a box

pub minus_at : (ps ss : List ℕ) (d : ℕ) → length ps ≡ length ss → slice_index (each2 (λ p s. p - s) ps ss) d ≡ slice_index ps d - slice_index ss d
minus_at [] [] d l = omega arith
minus_at [] (s ∷ ss) d l = absurd (omega arith)
minus_at (p ∷ ps) [] d l = absurd (omega arith)
minus_at (p ∷ ps) (s ∷ ss) zero l = refl
minus_at (p ∷ ps) (s ∷ ss) (suc d) l = minus_at ps ss d (omega arith)

each2_map : (f : ℕ → ℕ → ℕ) (g h : ℕ → ℕ) (ks : List ℕ) → each2 f (map g ks) (map h ks) ≡ map (λ k. f (g k) (h k)) ks
each2_map f g h [] = refl
each2_map f g h (k ∷ ks) = ap (λ ys. f (g k) (h k) ∷ ys) (each2_map f g h ks)

map_same : (f g : ℕ → ℕ) (ks : List ℕ) → ((k : ℕ) → f k ≡ g k) → map f ks ≡ map g ks
map_same f g [] law = refl
map_same f g (k ∷ ks) law = ap (λ y. y ∷ map f ks) (law k) ∙ ap (λ ys. g k ∷ ys) (map_same f g ks law)

pub minus_moved : (order ps ss : List ℕ) → length ps ≡ length ss → each2 (λ p s. p - s) (map (slice_index ps) order) (map (slice_index ss) order) ≡ map (slice_index (each2 (λ p s. p - s) ps ss)) order
minus_moved order ps ss l = each2_map (λ p s. p - s) (slice_index ps) (slice_index ss) order ∙ map_same (λ d. slice_index ps d - slice_index ss d) (slice_index (each2 (λ p s. p - s) ps ss)) order (λ d. sym (minus_at ps ss d l))
