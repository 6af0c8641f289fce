-- Numbers of the dimensions that are not of size one, one after another.
use Rattle.std.proofs.Common.{◌≡◌, ◌≢◌, ◌∙◌, ℕ, zero, suc, ◌+◌, ◌<◌, List, [], ◌∷◌, ◌++◌, length, get_or, drop, refl, sym, ap, arith, append_assoc, append-nil, Bool, true, false, ◌==◌, if◌then◌else◌}
use Rattle.std.proofs.lemmas.Bool.{eq-eqb}
use Rattle.std.proofs.lemmas.Map.Views.{exact_unsigned_eq}
use Rattle.zarr_codecs_boxes.specs.Regions.{kept_numbers}

-- the numbers of the dimensions from one on
abbrev left_at : List ℕ → List ℕ → ℕ → List ℕ
left_at shape numbers d = kept_numbers (drop d shape) (drop d numbers)

kept_step : (shape numbers : List ℕ) (d : ℕ) → d < length shape → d < length numbers → left_at shape numbers d ≡ (if get_or shape d 0 == 1 then left_at shape numbers (suc d) else get_or numbers d 0 ∷ left_at shape numbers (suc d))
kept_step [] numbers d low here = absurd (omega arith)
kept_step (n ∷ ns) [] d low here = absurd (omega arith)
kept_step (n ∷ ns) (x ∷ xs) zero low here = refl
kept_step (n ∷ ns) (x ∷ xs) (suc d) low here = kept_step ns xs d (omega arith) (omega arith)

next : (shape numbers : List ℕ) (d : ℕ) → left_at shape numbers (suc d) ≡ left_at shape numbers (d + 1)
next shape numbers d = let same : suc d ≡ d + 1 = omega arith in ap (left_at shape numbers) same

-- a dimension of another size keeps its number
pub kept_more : (shape numbers kept : List ℕ) (d : ℕ) → d < length shape → d < length numbers → get_or shape d 0 ≢ 1 → kept_numbers shape numbers ≡ kept ++ kept_numbers (drop d shape) (drop d numbers)
    → kept_numbers shape numbers ≡ (kept ++ get_or numbers d 0 ∷ []) ++ kept_numbers (drop (d + 1) shape) (drop (d + 1) numbers)
kept_more shape numbers kept d low here other so =
    so ∙ (ap (λ ms. kept ++ ms) (kept_step shape numbers d low here ∙ (by (get_or shape d 0 == 1) refl ∙ ap (λ ms. get_or numbers d 0 ∷ ms) (next shape numbers d))) ∙ sym (append_assoc kept (get_or numbers d 0 ∷ []) (left_at shape numbers (d + 1)))) where
      by : (b : Bool) → (get_or shape d 0 == 1) ≡ b → (if b then left_at shape numbers (suc d) else get_or numbers d 0 ∷ left_at shape numbers (suc d)) ≡ get_or numbers d 0 ∷ left_at shape numbers (suc d)
      by true is = absurd (other (exact_unsigned_eq (get_or shape d 0) 1 is))
      by false is = refl

-- one of size one doesn't
pub kept_same : (shape numbers kept : List ℕ) (d : ℕ) → d < length shape → d < length numbers → get_or shape d 0 ≡ 1 → kept_numbers shape numbers ≡ kept ++ kept_numbers (drop d shape) (drop d numbers)
    → kept_numbers shape numbers ≡ kept ++ kept_numbers (drop (d + 1) shape) (drop (d + 1) numbers)
kept_same shape numbers kept d low here one so =
    let rest = left_at shape numbers (suc d) in
    so ∙ ap (λ ms. kept ++ ms) (kept_step shape numbers d low here ∙ (ap (λ (b : Bool). if b then rest else get_or numbers d 0 ∷ rest) (eq-eqb (get_or shape d 0) 1 one) ∙ next shape numbers d))

none_left : (shape numbers : List ℕ) (d : ℕ) → (d < length shape → d < length numbers → ⊥) → kept_numbers (drop d shape) (drop d numbers) ≡ []
none_left [] numbers zero past = refl
none_left [] numbers (suc d) past = refl
none_left (n ∷ ns) [] zero past = refl
none_left (n ∷ ns) [] (suc d) past = left (drop d ns) where
  left : (sizes : List ℕ) → kept_numbers sizes [] ≡ []
  left [] = refl
  left (n ∷ ns) = refl
none_left (n ∷ ns) (x ∷ xs) zero past = absurd (past (omega arith) (omega arith))
none_left (n ∷ ns) (x ∷ xs) (suc d) past = none_left ns xs d (λ low here. past (omega arith) (omega arith))

pub kept_all : (shape numbers kept : List ℕ) (d : ℕ) → (d < length shape → d < length numbers → ⊥) → kept_numbers shape numbers ≡ kept ++ kept_numbers (drop d shape) (drop d numbers) → kept ≡ kept_numbers shape numbers
kept_all shape numbers kept d past so = sym (so ∙ (ap (λ ms. kept ++ ms) (none_left shape numbers d past) ∙ append-nil kept))
