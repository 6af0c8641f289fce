-- Indices of pairs have an even number of elements.
use Rattle.std.proofs.Common.{◌≡◌, ℕ, ◌+◌, ◌*◌, ◌%◌, ◌∙◌, ap, arith}
use Rattle.std.proofs.lemmas.Nat.{mod-mul-add}

-- twice a number is even
pub even_when : (n k : ℕ) → n ≡ 2 * k → n % 2 ≡ 0
even_when n k is =
    let e : n ≡ k * 2 + 0 = omega (arith, is) in
    ap (λ m. m % 2) e ∙ mod-mul-add k 2 0 (omega arith)
