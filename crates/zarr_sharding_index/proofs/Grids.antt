-- How many subchunks there are, and lists of equal pairs.
use Rattle.std.proofs.Common.{◌≡◌, ℕ, zero, suc, ◌+◌, ◌-◌, ◌*◌, ◌/◌, ◌%◌, ◌<◌, ◌≤◌, min, ◌∷◌, map, replicate, ap, refl, arith}
use Rattle.std.proofs.lemmas.Grind.{div_ceil_times}
use Rattle.std.proofs.lemmas.Nat.{le-div, div_below}

pub map_replicate : {X Y : Type 0} (f : X → Y) (n : ℕ) (x : X) → map f (replicate n x) ≡ replicate n (f x)
map_replicate f zero x = refl
map_replicate f (suc n) x = ap (λ ys. f x ∷ ys) (map_replicate f n x)

pub rounded_up : (n p : ℕ) → 0 < p → n / p + min 1 (n % p) ≡ (n + (p - 1)) / p
rounded_up n p some =
    let q = n / p + min 1 (n % p) in
    let bounds = div_ceil_times n p some in
    let more : (q + 1) * p ≡ q * p + p = grind arith in
    let low : q ≤ (n + (p - 1)) / p = le-div q (n + (p - 1)) p some (omega (arith, bounds, some)) in
    let high : (n + (p - 1)) / p < q + 1 = div_below (n + (p - 1)) p (q + 1) some (omega (arith, bounds, some, more)) in
    omega (arith, low, high)
