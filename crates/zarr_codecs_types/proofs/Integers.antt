-- The bytes of integers.
use Rattle.std.proofs.Common.{◌≡◌, ℕ, zero, suc, ◌+◌, ◌-◌, ◌*◌, ◌/◌, ◌%◌, ◌^◌, ◌<◌, ◌≤◌, ℤ, pos, negsuc, ◌∷◌, take, true, if◌then◌else◌, Some, None, option_and_then, ap, ◌∙◌, sym, refl, arith, mul-suc, pow-add, pow-suc, pow_mono, lt_of_lt_of_le}
use Rattle.std.specs.Int.{to_le_bytes, bytes_low_first}
use Rattle.std.proofs.lemmas.Bool.{ltb-true}
use Rattle.std.proofs.Math.Nat.{div-div-eq-div-mul}
use native.Mathlib.Nat.{pow-zero}
use mir.Val.{of_z}
use mir.Syntax.{w128}
use Rattle.serde_json.specs.Data.{Data}
use Rattle.serde_json.specs.Find.{as_number, as_integer}
use Rattle.zarr_codecs_meaning.specs.Numbers.{digits}
use Rattle.zarr_codecs_meaning.specs.Types.{Sign, unsigned, signed}
use Rattle.zarr_codecs_meaning.proofs.Lists.{bind_some, if_some, some_same}
use Rattle.zarr_codecs_meaning.proofs.Words.{below_bytes}
use Rattle.zarr_codecs_types.specs.Integers.{integer_bytes, Reaches}
use Rattle.zarr_codecs_types.specs.FillMetadata.{integer_fits, integer_in}

-- ---- some of the lowest digits

digits_take : (k m n : ℕ) → k ≤ m → take k (digits 256 m n) ≡ digits 256 k n
digits_take zero m n h = refl
digits_take (suc k) zero n h = absurd (omega arith)
digits_take (suc k) (suc m) n h = ap (λ ns. n % 256 ∷ ns) (digits_take k m (n / 256) (omega arith))

-- a multiple of what the digits count up to changes none of them
digits_turn : (k n q : ℕ) → digits 256 k (n + 256 ^ k * q) ≡ digits 256 k n
digits_turn zero n q = refl
digits_turn (suc k) n q =
    let more : 256 ^ suc k * q ≡ (256 ^ k * q) * 256 = ap (λ p. p * q) (pow-suc 256 k) ∙ grind arith in
    let low : (n + 256 ^ suc k * q) % 256 ≡ n % 256 = ap (λ p. (n + p) % 256) more ∙ omega arith in
    let high : (n + 256 ^ suc k * q) / 256 ≡ n / 256 + 256 ^ k * q = ap (λ p. (n + p) / 256) more ∙ omega arith in
    ap (λ b. b ∷ digits 256 k ((n + 256 ^ suc k * q) / 256)) low ∙ ap (λ ns. n % 256 ∷ ns) (ap (digits 256 k) high ∙ digits_turn k (n / 256) q)

pow_positive : (k : ℕ) → 0 < 256 ^ k
pow_positive zero = omega (arith, pow-zero 256)
pow_positive (suc k) = let rest = pow_positive k in omega (arith, pow-suc 256 k)

product_less : (p q : ℕ) → 0 < q → p * q ≡ p + p * (q - 1)
product_less p zero h = absurd (omega arith)
product_less p (suc q) h = let e : suc q - 1 ≡ q = omega arith in let turned : p * q + p ≡ p + p * q = omega arith in mul-suc p q ∙ (turned ∙ ap (λ m. p + p * m) (sym e))

-- ---- the bytes of a number of 128 bits

next_byte : (n i : ℕ) → n / 256 ^ suc i ≡ n / 256 ^ i / 256
next_byte n i = ap (λ p. n / p) (pow-suc 256 i) ∙ sym (div-div-eq-div-mul n (256 ^ i) 256)

below_all : (count n : ℕ) → count ≤ 16 → n < 256 ^ count → digits 256 count (2 ^ 128 - suc n) ≡ digits 256 count (256 ^ count - suc n)
below_all count n h small =
    let p = 256 ^ count in
    let q = 256 ^ (16 - count) in
    let sum : count + (16 - count) ≡ 16 = omega arith in
    let whole : 2 ^ 128 ≡ p * q = ap (λ m. 256 ^ m) (sym sum) ∙ pow-add 256 count (16 - count) in
    let positive : 0 < q = pow_positive (16 - count) in
    let parts : p * q ≡ p + p * (q - 1) = product_less p q positive in
    let e : 2 ^ 128 - suc n ≡ (p - suc n) + p * (q - 1) = ap (λ m. m - suc n) (whole ∙ parts) ∙ omega arith in
    ap (digits 256 count) e ∙ digits_turn count (p - suc n) (q - 1)

pub taken : (count : ℕ) (z : ℤ) → count ≤ 8 → Reaches count z → take count (digits 256 16 (of_z w128 z)) ≡ integer_bytes count z
taken count (pos n) h low = digits_take count 16 n (omega arith)
taken count (negsuc n) h low = digits_take count 16 (2 ^ 128 - suc n) (omega arith) ∙ below_all count n (omega arith) low

low_bytes : (i k n : ℕ) → bytes_low_first i k n ≡ digits 256 k (n / 256 ^ i)
low_bytes i zero n = refl
low_bytes zero (suc k) n =
    let one = pow-zero 256 in
    let same : n / 256 ^ 0 ≡ n = omega arith in
    let next : n / 256 ^ 1 ≡ n / 256 = refl in
    ap (λ ns. n % 256 ∷ ns) (low_bytes 1 k n ∙ ap (digits 256 k) next) ∙ ap (digits 256 (suc k)) (sym same)
low_bytes (suc i) (suc k) n = ap (λ ns. n / 256 ^ suc i % 256 ∷ ns) (low_bytes (suc (suc i)) k n ∙ ap (digits 256 k) (next_byte n (suc i)))

pub integer_taken : (count : ℕ) (z : ℤ) → count ≤ 8 → Reaches count z → take count (to_le_bytes w128 (of_z w128 z)) ≡ integer_bytes count z
integer_taken count z h low = ap (take count) (low_bytes 0 16 (of_z w128 z) ∙ ap (digits 256 16) (omega (arith, pow-zero 256))) ∙ taken count z h low

-- ---- integers in range

fit_reaches : (sign : Sign) (width : ℕ) (z : ℤ) → integer_fits sign width z ≡ true → Reaches ((width + 7) / 8) z
fit_reaches sign width (pos n) h = tt
fit_reaches unsigned width (negsuc n) h = cc
fit_reaches signed width (negsuc n) h =
    let less : width - 1 ≤ width = omega arith in
    below_bytes width n (lt_of_lt_of_le (ltb-true n (2 ^ (width - 1)) h) (pow_mono less))

pub in_range : (sign : Sign) (width : ℕ) (d : Data) (z : ℤ) → integer_in sign width d ≡ Some z → integer_fits sign width z ≡ true
in_range sign width d z is =
    let found = bind_some (λ n. if integer_fits sign width n then Some n else None) (option_and_then as_integer (as_number d)) z is in
    let kept = if_some (integer_fits sign width found.0) (Some found.0) z found.2 in
    ap (integer_fits sign width) (sym (some_same kept.1)) ∙ kept.0

pub in_reaches : (sign : Sign) (width : ℕ) (d : Data) (z : ℤ) → integer_in sign width d ≡ Some z → Reaches ((width + 7) / 8) z
in_reaches sign width d z is = fit_reaches sign width z (in_range sign width d z is)
