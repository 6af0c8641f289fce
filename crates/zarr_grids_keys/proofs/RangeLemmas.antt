-- What is under a path stands together in byte order.
use Rattle.std.proofs.Common.{◌≡◌, ◌≢◌, ◌↔◌, ℕ, IsTrue, List, [], ◌∷◌, ◌++◌, refl, sym, ap, subst, arith, codes}
use Rattle.std.specs.BTreeMap.Range.{IsInRange, IsLeBy, IsLtBy}
use Rattle.std.specs.Cmp.Lexicographic.{slice_cmp}
use Rattle.std.specs.declared.ops.Bound.TheVariants.{Included, Excluded}
use Rattle.std.specs.Ordering.{nat_cmp}
use Rattle.std.proofs.lemmas.Bool.Decides.{nat_tests}
use Rattle.zarr_grids_keys.specs.Related.{is_under}
use Rattle.zarr_grids_keys.proofs.RelatedLemmas.{IsUnder, IsUnder-cons, is_under-Decides}

-- from a text and a slash, up to that text and the byte after the slash
abbrev pub IsBetween : List ℕ → List ℕ → Type 0
IsBetween p q = IsLeBy (slice_cmp nat_cmp) (p ++ 47 ∷ []) q × IsLtBy (slice_cmp nat_cmp) q (p ++ 48 ∷ [])

between-nil : (y : ℕ) (ys : List ℕ) → IsBetween [] (y ∷ ys) → y ≡ 47
between-nil y [] h = grind (arith, nat_tests)
between-nil y (z ∷ zs) h = grind (arith, nat_tests)

between-cons : (x y : ℕ) (p q : List ℕ) → IsBetween (x ∷ p) (y ∷ q) → (x ≡ y) × IsBetween p q
between-cons x y p q h = grind (arith, nat_tests)

from_between : (p q : List ℕ) → IsBetween p q → IsUnder p q
from_between [] [] h = absurd (cc)
from_between [] (y ∷ ys) h = (ys, ap (λ z. z ∷ ys) (between-nil y ys h))
from_between (x ∷ p) [] h = absurd (cc)
from_between (x ∷ p) (y ∷ q) h = let g = between-cons x y p q h in IsUnder-cons x y p q g.0 (from_between p q g.1)

between-under : (p rest : List ℕ) → IsBetween p (p ++ 47 ∷ rest)
between-under [] [] = (refl, refl)
between-under [] (x ∷ xs) = (refl, refl)
between-under (x ∷ p) rest = let h = between-under p rest in (grind (arith, nat_tests), grind (arith, nat_tests))

-- what is under a path other than `/` is what stands between those two
pub is_under-range : (p q : List ℕ) → p ≢ codes "/" → IsTrue (is_under p q) ↔ IsInRange (slice_cmp nat_cmp) (Included (p ++ codes "/")) (Excluded (p ++ codes "0")) q
is_under-range p q n =
    let d = is_under-Decides p q n in
    (λ u. let g = d.0 u in subst (IsBetween p) (sym g.1) (between-under p g.0), λ h. d.1 (from_between p q h))
