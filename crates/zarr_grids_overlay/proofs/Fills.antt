-- Bytes that are all one byte.
use Rattle.std.proofs.Common.{◌≡◌, ℕ, ◌-◌, ◌<◌, ◌==◌, ◌&&◌, Bool, true, false, nat_eq, List, [], ◌∷◌, length, get_or, take, drop, refl, sym, ap, ◌∙◌, arith, eq-eqb}
use Rattle.std.specs.List.{list_all}
use Rattle.std.specs.Cmp.Lexicographic.{pointwise}
use Rattle.std.proofs.lemmas.Bool.{eqb-true}
use Rattle.std.proofs.lemmas.List.{take_all}

and_congr : (b p q : Bool) → (b ≡ true → p ≡ q) → (b && p) ≡ (b && q)
and_congr true p q h = h refl
and_congr false p q h = refl

shifted : (y x : ℕ) (xs : List ℕ) → x ≡ y → pointwise nat_eq xs (take (length xs) (x ∷ xs)) ≡ list_all (λ b. b == y) xs
shifted y x [] e = refl
shifted y x (z ∷ zs) e =
    ap (λ v. nat_eq z v && pointwise nat_eq zs (take (length zs) (z ∷ zs))) e
    ∙ and_congr (nat_eq z y) (pointwise nat_eq zs (take (length zs) (z ∷ zs))) (list_all (λ b. b == y) zs) (λ h. shifted y z zs (eqb-true z y h))

-- a list whose first number is y is all y if each number equals the one before it
pub all-shifted : (y : ℕ) (xs : List ℕ) → 0 < length xs → get_or xs 0 0 ≡ y → pointwise nat_eq (take (length xs - 1) (drop 1 xs)) (take (length xs - 1) xs) ≡ list_all (λ b. b == y) xs
all-shifted y [] h e = absurd (omega arith)
all-shifted y (x ∷ xs) h e =
    let k : length (x ∷ xs) - 1 ≡ length xs = omega arith in
    ap (λ n. pointwise nat_eq (take n xs) (take n (x ∷ xs))) k
    ∙ ap (λ ys. pointwise nat_eq ys (take (length xs) (x ∷ xs))) (take_all (length xs) xs (omega arith))
    ∙ shifted y x xs e
    ∙ sym (ap (λ b. b && list_all (λ b. b == y) xs) (eq-eqb x y e))
