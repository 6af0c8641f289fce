-- The places that two boxes share, and how many they are.
use Rattle.std.proofs.Common.{◌≡◌, ℕ, ◌+◌, ◌-◌, ◌*◌, ◌^◌, ◌≤◌, Bool, true, max, min, List, [], ◌∷◌, refl, ap, arith, Option, Some, None, inl, inr, MatchOption}
use Rattle.std.proofs.Math.Dec.{leb}
use Rattle.std.proofs.lemmas.Bool.{le-leb, ltb-true}
use Rattle.zarr_grids_boxes.specs.Boxes.{Region, product, each2, share_place}
use Rattle.zarr_grids_boxes.specs.Cuts.{overlapped}
use Rattle.zarr_grids_boxes.proofs.Places.{both}
use Rattle.zarr_codecs_meaning.specs.Types.{DataType, byte_width, IsTooLarge}
use Rattle.zarr_array_meaning.specs.Chunks.{contains_box, holds_box}

-- ---- the shared box lies in both

abbrev shared_start : List ℕ → List ℕ → List ℕ
shared_start ss ts = each2 max ss ts

abbrev shared_shape : List ℕ → List ℕ → List ℕ → List ℕ → List ℕ
shared_shape ss xs ts us = each2 (λ s e. e - s) (each2 max ss ts) (each2 min (each2 (λ s e. s + e) ss xs) (each2 (λ s e. s + e) ts us))

held : (ss xs ts us : List ℕ) → share_place ts us ss xs ≡ true → contains_box ss xs (shared_start ss ts) (shared_shape ss xs ts us) ≡ true
held [] xs ts us h = refl
held (s ∷ ss) [] [] [] h = refl
held (s ∷ ss) [] [] (u ∷ us) h = refl
held (s ∷ ss) [] (t ∷ ts) us h = refl
held (s ∷ ss) (x ∷ xs) [] us h = refl
held (s ∷ ss) (x ∷ xs) (t ∷ ts) [] h = absurd (cc)
held (s ∷ ss) (x ∷ xs) (t ∷ ts) (u ∷ us) h =
    let a = both _ _ h in
    let meet = ltb-true (max t s) (min (t + u) (s + x)) a.0 in
    let low : leb s (max s t) ≡ true = le-leb s (max s t) (omega arith) in
    let high : leb (max s t + (min (s + x) (t + u) - max s t)) (s + x) ≡ true = le-leb _ (s + x) (omega (arith, meet)) in
    rw (low, high, held ss xs ts us a.1) refl

-- the shared box lies in the box
pub shared_held : (region box : Region) → share_place box.start box.shape region.start region.shape ≡ true → holds_box region (overlapped region box) ≡ true
shared_held region box h = held region.start region.shape box.start box.shape h

product_at_most : (a b c d : ℕ) → a ≤ b → c ≤ d → a * c ≤ b * d
product_at_most a b c d h k = let first : a * c ≤ b * c = grind arith in let second : b * c ≤ b * d = grind arith in omega (arith, first, second)

smaller : (ss xs ts us : List ℕ) → share_place ts us ss xs ≡ true → product (shared_shape ss xs ts us) ≤ product us
smaller [] [] [] [] h = omega arith
smaller [] [] [] (u ∷ us) h = absurd (cc)
smaller [] [] (t ∷ ts) [] h = absurd (cc)
smaller [] [] (t ∷ ts) (u ∷ us) h = absurd (cc)
smaller [] (x ∷ xs) [] [] h = absurd (cc)
smaller [] (x ∷ xs) [] (u ∷ us) h = absurd (cc)
smaller [] (x ∷ xs) (t ∷ ts) [] h = absurd (cc)
smaller [] (x ∷ xs) (t ∷ ts) (u ∷ us) h = absurd (cc)
smaller (s ∷ ss) xs [] [] h = absurd (cc)
smaller (s ∷ ss) xs [] (u ∷ us) h = absurd (cc)
smaller (s ∷ ss) xs (t ∷ ts) [] h = absurd (cc)
smaller (s ∷ ss) [] (t ∷ ts) (u ∷ us) h = absurd (cc)
smaller (s ∷ ss) (x ∷ xs) (t ∷ ts) (u ∷ us) h =
    let a = both _ _ h in
    let meet = ltb-true (max t s) (min (t + u) (s + x)) a.0 in
    let one : min (s + x) (t + u) - max s t ≤ u = omega (arith, meet) in
    let rest = smaller ss xs ts us a.1 in
    product_at_most (min (s + x) (t + u) - max s t) u (product (shared_shape ss xs ts us)) (product us) one rest

-- it has no more places than the chunk
pub shared_smaller : (region box : Region) → share_place box.start box.shape region.start region.shape ≡ true → product (overlapped region box).shape ≤ product box.shape
shared_smaller region box h = smaller region.start region.shape box.start box.shape h

wide_grows : (width : Option ℕ) (m n : ℕ) → m ≤ n → MatchOption width ⊥ (λ w. 2 ^ 63 ≤ m * w) → MatchOption width ⊥ (λ w. 2 ^ 63 ≤ n * w)
wide_grows None m n le h = h
wide_grows (Some w) m n le h = let more : m * w ≤ n * w = product_at_most m n w w le (omega arith) in omega (arith, more, h)

-- more elements are too large where fewer are
pub large_grows : (type : DataType) (m n : ℕ) → m ≤ n → IsTooLarge type m → IsTooLarge type n
large_grows type m n le (inl h) = inl (omega (arith, le, h))
large_grows type m n le (inr h) = inr (wide_grows (byte_width type) m n le h)
