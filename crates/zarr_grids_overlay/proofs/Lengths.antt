-- Whether a list is empty.
use Rattle.std.proofs.Common.{◌≡◌, ◌∙◌, ℕ, zero, suc, ◌<◌, Bool, true, false, nat_eq, sym, arith}
use Rattle.std.proofs.lemmas.Bool.{eqb-true}

pub empty : (n : ℕ) (b : Bool) → b ≡ nat_eq n 0 → b ≡ true → n ≡ 0
empty n b e f = eqb-true n 0 (sym e ∙ f)

pub not_empty : (n : ℕ) (b : Bool) → b ≡ nat_eq n 0 → b ≡ false → 0 < n
not_empty zero b e f = absurd (cc)
not_empty (suc n) b e f = omega arith
