-- Lists of edges that begin alike.
use Rattle.std.proofs.Common.{◌≡◌, ◌∙◌, ℕ, zero, suc, List, ◌++◌, Bool, ◌&&◌, replicate, refl, sym, ap, ap₂}
use Rattle.std.specs.Prelude.{bytes_eq}
use Rattle.std.proofs.lemmas.Bool.Decides.{Decides-eqb}

-- what comes after as many equal edges decides
after_same : (n e : ℕ) (xs ys : List ℕ) → bytes_eq (replicate n e ++ xs) (replicate n e ++ ys) ≡ bytes_eq xs ys
after_same zero e xs ys = refl
after_same (suc n) e xs ys = ap (λ (b : Bool). b && bytes_eq (replicate n e ++ xs) (replicate n e ++ ys)) ((Decides-eqb e e).1 refl) ∙ after_same n e xs ys

pub same_front : (n e f : ℕ) (xs ys ls os : List ℕ) → e ≡ f → ls ≡ replicate n e ++ xs → os ≡ replicate n f ++ ys → bytes_eq xs ys ≡ bytes_eq ls os
same_front n e f xs ys ls os h l o = sym (ap₂ bytes_eq l (o ∙ ap (λ (d : ℕ). replicate n d ++ ys) (sym h)) ∙ after_same n e xs ys)
