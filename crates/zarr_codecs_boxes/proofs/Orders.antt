-- An order names each dimension once.
use Rattle.std.proofs.Common.{◌≡◌, ℕ, zero, suc, ◌<◌, List, [], ◌∷◌, length, map, get_or, slice_index, ap, ◌∙◌, sym, refl, arith, Bool, true, false, ◌==◌, ◌⊎◌, inl, inr, subst}
use Rattle.std.specs.List.{range_with_len}
use Rattle.std.proofs.lemmas.Bool.{eq-eqb}
use Rattle.std.proofs.lemmas.List.{get_or-map, length-map}
use Rattle.std.proofs.lemmas.List.FromFn.{length-range_with_len, fill_by_all, get_or-map-range_with_len}
use Rattle.std.proofs.lemmas.Map.Views.{exact_unsigned_eq}
use Rattle.zarr_grids_boxes.specs.Boxes.{IsIndex}
use Rattle.zarr_codecs_meaning.specs.Places.{position_of, untransposed}
use Rattle.zarr_codecs_meaning.proofs.Positions.{IsAmong, among_at, position_found, position_read}
use Rattle.zarr_codecs_meaning.proofs.Covers.{IsOrder}
use Rattle.zarr_codecs_meaning.proofs.Once.{covering_long}

-- ---- a list without one of its elements

abbrev without_at : List ℕ → ℕ → List ℕ
without_at [] i = []
without_at (x ∷ xs) zero = xs
without_at (x ∷ xs) (suc i) = x ∷ without_at xs i

length-without_at : (xs : List ℕ) (i : ℕ) → i < length xs → suc (length (without_at xs i)) ≡ length xs
length-without_at [] i below = absurd (omega arith)
length-without_at (x ∷ xs) zero below = refl
length-without_at (x ∷ xs) (suc i) below = ap suc (length-without_at xs i (omega arith))

-- each other element stays
among_others : (xs : List ℕ) (i j : ℕ) → j < length xs → (i ≡ j → ⊥) → IsAmong (get_or xs j 0) (without_at xs i)
among_others [] i j below other = absurd (omega arith)
among_others (x ∷ xs) zero zero below other = absurd (other refl)
among_others (x ∷ xs) zero (suc j) below other = among_at xs j (get_or xs j 0) (omega arith) refl
among_others (x ∷ xs) (suc i) zero below other = inl refl
among_others (x ∷ xs) (suc i) (suc j) below other = inr (among_others xs i j (omega arith) (λ same. other (ap suc same)))

equal_or_not : (i j : ℕ) → (i ≡ j) ⊎ (i ≡ j → ⊥)
equal_or_not i j = by_test (i == j) refl where
  by_test : (b : Bool) → (i == j) ≡ b → (i ≡ j) ⊎ (i ≡ j → ⊥)
  by_test true e = inl (exact_unsigned_eq i j e)
  by_test false e = inr (λ same. (let yes : true ≡ false = sym (eq-eqb i j same) ∙ e in cc))

-- ---- orders

-- an order names each dimension once
pub order_position : (order : List ℕ) → IsOrder order → (i : ℕ) → i < length order → position_of (get_or order i 0) order ≡ i
order_position order is i below = elim (equal_or_not i (position_of d order)) as (λ _. position_of d order ≡ i) [
  | inl same ↦ sym same
  | inr other ↦
      let long = covering_long (length order) (without_at order i) (λ m low. named m low other) in
      absurd (omega (arith, long, length-without_at order i below))
] where
  d : ℕ
  d = get_or order i 0

  found : position_of d order < length order
  found = position_found d order (among_at order i d below refl)

  read : get_or order (position_of d order) 0 ≡ d
  read = position_read d 0 order found

  named : (m : ℕ) → m < length order → (i ≡ position_of d order → ⊥) → IsAmong m (without_at order i)
  named m low other =
      let at_ = position_found m order (is.among m low) in
      let there : get_or order (position_of m order) 0 ≡ m = position_read m 0 order at_ in
      elim (equal_or_not i (position_of m order)) as (λ _. IsAmong m (without_at order i)) [
        | inr apart ↦ subst (λ k. IsAmong k (without_at order i)) there (among_others order i (position_of m order) at_ apart)
        | inl here ↦
            let same : d ≡ m = ap (λ k. get_or order k 0) here ∙ there in
            subst (λ k. IsAmong k (without_at order i)) (read ∙ same) (among_others order i (position_of d order) found other)
      ]

-- a place behind a transposition is that of a place before it
pub untransposed_index : (order q shape : List ℕ) → IsOrder order → length order ≡ length shape → IsIndex q (map (slice_index shape) order) → IsIndex (untransposed order q) shape
untransposed_index order q shape is same h = record {
  same = length-map (range_with_len 0 (length order)) (λ d. slice_index q (position_of d order)) ∙ (length-range_with_len 0 (length order) ∙ same);
  below = λ k l.
      let inside : k < length order = omega (arith, l, same) in
      let j = position_of k order in
      let found : j < length order = position_found k order (is.among k inside) in
      let low : get_or q j 0 < get_or (map (slice_index shape) order) j 0 = h.below j (omega (arith, found, length-map order (slice_index shape))) in
      let size : get_or (map (slice_index shape) order) j 0 ≡ get_or shape k 0 = get_or-map (slice_index shape) order j 0 0 found ∙ ap (slice_index shape) (position_read k 0 order found) in
      let here : get_or (untransposed order q) k 0 ≡ get_or q j 0 = get_or-map-range_with_len (λ d. slice_index q (position_of d order)) 0 (length order) k k 0 inside (omega arith) in
      omega (arith, low, size, here);
}

pub transposed_back : (order q : List ℕ) → IsOrder order → length q ≡ length order → map (slice_index (untransposed order q)) order ≡ q
transposed_back order q is same =
    let n = length order in
    let u = untransposed order q in
    let read : (i : ℕ) → i < n → get_or (map (slice_index u) order) i 0 ≡ get_or q i 0 = λ i h.
    let d = get_or order i 0 in
    get_or-map (slice_index u) order i 0 0 h ∙ (get_or-map-range_with_len (λ k. slice_index q (position_of k order)) 0 n d d 0 (is.low i h) (omega arith) ∙ ap (slice_index q) (order_position order is i h)) in
    fill_by_all (λ i. get_or q i 0) (map (slice_index u) order) n 0 (length-map order (slice_index u)) read ∙ sym (fill_by_all (λ i. get_or q i 0) q n 0 same (λ k h. refl))
