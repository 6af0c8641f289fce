-- What a stable sort by a number keeps of the elements with one number.
use Rattle.std.proofs.Common.{◌≡◌, ◌∙◌, ℕ, List, [], ◌∷◌, cond, not, ap, sym, refl, arith, inl, inr, Bool, true, false, ◌&&◌, ◌==◌}
use Rattle.std.specs.Prelude.{nat_lt}
use Rattle.std.specs.List.{filter}
use Rattle.std.specs.List.Sorted.{IsStableByKey}
use Rattle.std.specs.Ordering.{is_lt, nat_cmp}
use Rattle.std.specs.declared.cmp.Ordering.TheVariants.{Less, Equal, Greater}
use Rattle.std.proofs.lemmas.Bool.{cases_lt, eqb-true, eq-eqb, le-ltb, lt-ltb}

tested : (a b : ℕ) (c : Bool) → (b == a) ≡ c → not (nat_lt a b) && not (nat_lt b a) ≡ c
tested a b true e =
    let same = eqb-true b a e in
    ap (λ (t : Bool). not t && not (nat_lt b a)) (le-ltb a b (omega (arith, same))) ∙ ap not (le-ltb b a (omega (arith, same)))
tested a b false e = elim (cases_lt a b) [
  | inl less ↦ ap (λ (t : Bool). not t && not (nat_lt b a)) (lt-ltb a b less)
  | inr least ↦ elim (cases_lt b a) [
    | inl more ↦ ap (λ (t : Bool). not t && not (nat_lt b a)) (le-ltb a b least) ∙ ap not (lt-ltb b a more)
    | inr most ↦ let yes = eq-eqb b a (omega (arith, least, most)) in cc
  ]
]

less_or_not : (t u : Bool) → is_lt (cond t Less (cond u Equal Greater)) ≡ t
less_or_not true u = refl
less_or_not false true = refl
less_or_not false false = refl

nat_cmp-ltb : (a b : ℕ) → is_lt (nat_cmp a b) ≡ nat_lt a b
nat_cmp-ltb a b = less_or_not (nat_lt a b) (a == b)

tied : (a b : ℕ) → not (is_lt (nat_cmp a b)) && not (is_lt (nat_cmp b a)) ≡ (b == a)
tied a b = ap (λ (t : Bool). not t && not (is_lt (nat_cmp b a))) (nat_cmp-ltb a b) ∙ (ap (λ (t : Bool). not (nat_lt a b) && not t) (nat_cmp-ltb b a) ∙ tested a b (b == a) refl)

same_filter : {X : Type 0} (p q : X → Bool) (xs : List X) → ((x : X) → p x ≡ q x) → filter p xs ≡ filter q xs
same_filter p q [] same = refl
same_filter p q (x ∷ xs) same = ap (λ (b : Bool). cond b (x ∷ filter p xs) (filter p xs)) (same x) ∙ ap (λ ys. cond (q x) (x ∷ ys) ys) (same_filter p q xs same)

-- the elements that have the number of one stand in their order
pub stable_filter : {X : Type 0} (n : X → ℕ) (xs ys : List X) (x : X) → IsStableByKey n nat_cmp xs ys → filter (λ y. n y == n x) ys ≡ filter (λ y. n y == n x) xs
stable_filter {X = X} n xs ys x stable =
    let tie = λ (y : X). not (is_lt (nat_cmp (n x) (n y))) && not (is_lt (nat_cmp (n y) (n x))) in
    sym (same_filter tie (λ y. n y == n x) ys (λ y. tied (n x) (n y))) ∙ (stable x ∙ same_filter tie (λ y. n y == n x) xs (λ y. tied (n x) (n y)))
