-- Boxes built one dimension after another.
use Rattle.std.proofs.Common.{◌≡◌, ℕ, zero, suc, ◌+◌, ◌<◌, ◌≤◌, Bool, true, false, ◌&&◌, List, [], ◌∷◌, length, get_or, refl, sym, ◌∙◌, arith}
use Rattle.zarr_grids_boxes.specs.Boxes.{each2, is_in_box}
use Rattle.zarr_grids_boxes.specs.Cuts.{IsAtMost}
use Rattle.std.proofs.Math.Dec.{leb, ltb}
use Rattle.zarr_grids_boxes.proofs.Places.{length-each2}

-- ---- two numbers of each dimension
pub each2_at : (f : ℕ → ℕ → ℕ) (xs ys : List ℕ) (k : ℕ) → k < length xs → k < length ys → get_or (each2 f xs ys) k 0 ≡ f (get_or xs k 0) (get_or ys k 0)
each2_at f [] ys k h l = absurd (omega arith)
each2_at f (x ∷ xs) [] k h l = absurd (omega arith)
each2_at f (x ∷ xs) (y ∷ ys) zero h l = refl
each2_at f (x ∷ xs) (y ∷ ys) (suc k) h l = each2_at f xs ys k (omega arith) (omega arith)

-- ---- which places a box has, one dimension after another
and-false : (b : Bool) → (b && false) ≡ false
and-false true = refl
and-false false = refl

pub in_box_lengths : (ss es ps : List ℕ) → length es ≡ length ss → (length ps ≡ length ss → ⊥) → is_in_box ss es ps ≡ false
in_box_lengths [] [] [] l h = absurd (h refl)
in_box_lengths [] [] (p ∷ ps) l h = refl
in_box_lengths [] (e ∷ es) ps l h = absurd (omega arith)
in_box_lengths (s ∷ ss) [] ps l h = absurd (omega arith)
in_box_lengths (s ∷ ss) (e ∷ es) [] l h = refl
in_box_lengths (s ∷ ss) (e ∷ es) (p ∷ ps) l h = rw (in_box_lengths ss es ps (omega arith) (λ g. h (omega arith))) (and-false (leb s p && ltb p (s + e)))

-- ---- an end within a shape
pub at_most_ends : (ss es ns : List ℕ) → length es ≡ length ss → length ns ≡ length ss → ((k : ℕ) → k < length ss → get_or ss k 0 + get_or es k 0 ≤ get_or ns k 0) → IsAtMost (each2 (λ s e. s + e) ss es) ns
at_most_ends ss es ns l m h =
    let n = length-each2 (λ s e. s + e) ss es (sym l) in
    record { same = n ∙ sym m; each = λ k g. let a : k < length ss = omega arith in let b : k < length es = omega arith in rw (each2_at (λ s e. s + e) ss es k a b) (h k a) }

pub ends_at_most : (ss es ns : List ℕ) → length es ≡ length ss → IsAtMost (each2 (λ s e. s + e) ss es) ns → (length ns ≡ length ss) × ((k : ℕ) → k < length ss → get_or ss k 0 + get_or es k 0 ≤ get_or ns k 0)
ends_at_most ss es ns l m =
    let n = length-each2 (λ s e. s + e) ss es (sym l) in
    let same = m.same in
    (omega arith, λ k a. let b : k < length es = omega arith in let g : k < length ns = omega arith in rw (each2_at (λ s e. s + e) ss es k a b) at (m.each k g))
