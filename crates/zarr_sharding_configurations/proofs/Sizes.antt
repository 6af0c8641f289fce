-- Sizes of which none is 0.
use Rattle.std.proofs.Common.{◌≡◌, ◌∙◌, ℕ, zero, suc, ◌*◌, ◌<◌, List, [], ◌∷◌, Bool, true, false, ◌||◌, ◌==◌, if◌then◌else◌, ap, refl, arith, Some, None}
use Rattle.std.specs.List.{list_any}
use Rattle.std.proofs.lemmas.Bool.Decides.{Decides-eqb}
use Rattle.zarr_grids_boxes.specs.Boxes.{product}
use Rattle.zarr_sharding_metadata.specs.Metadata.{none_zero}

not_zero : (n : ℕ) → (suc n == 0) ≡ false
not_zero n = at (suc n == 0) refl where
  at : (b : Bool) → (suc n == 0) ≡ b → (suc n == 0) ≡ false
  at true e = let h : suc n ≡ 0 = (Decides-eqb (suc n) 0).0 e in absurd (omega arith)
  at false e = e

or_true : (b : Bool) → (b || true) ≡ true
or_true true = refl
or_true false = refl

some_zero : (sizes : List ℕ) → product sizes ≡ 0 → list_any (λ size. size == 0) sizes ≡ true
some_zero [] h = absurd (omega arith)
some_zero (zero ∷ sizes) h = refl
some_zero (suc n ∷ sizes) h = let rest : product sizes ≡ 0 = omega arith in ap (λ (b : Bool). (suc n == 0) || b) (some_zero sizes rest) ∙ or_true (suc n == 0)

all_positive : (sizes : List ℕ) → 0 < product sizes → list_any (λ size. size == 0) sizes ≡ false
all_positive [] h = refl
all_positive (zero ∷ sizes) h = absurd (omega arith)
all_positive (suc n ∷ sizes) h =
    let rest : 0 < product sizes = elim (product sizes) as (λ m. 0 < suc n * m → 0 < m) [ zero ↦ λ g. absurd (omega arith) | suc m ↦ λ g. omega arith ] h in
    let one = not_zero n in
    let others = all_positive sizes rest in
    ap (λ (b : Bool × Bool). b.0 || b.1) (λ i. (one i, others i))

pub zero_sizes : (sizes : List ℕ) → product sizes ≡ 0 → none_zero sizes ≡ None
zero_sizes sizes h = ap (λ (b : Bool). if b then None else Some sizes) (some_zero sizes h)

pub positive_sizes : (sizes : List ℕ) → 0 < product sizes → none_zero sizes ≡ Some sizes
positive_sizes sizes h = ap (λ (b : Bool). if b then None else Some sizes) (all_positive sizes h)
