-- Bytes that are values of a type of integers, and the integers that they are.
use Rattle.std.proofs.Common.{◌≡◌, ℕ, zero, suc, ◌+◌, ◌-◌, ◌*◌, ◌/◌, ◌%◌, ◌^◌, ◌<◌, ◌≤◌, pos, negsuc, List, [], ◌∷◌, length, take, drop, get_or, Bool, true, false, ◌&&◌, ◌==◌, if◌then◌else◌, ap, ◌∙◌, sym, refl, subst, arith, pow-suc, lt_of_lt_of_le}
use Rattle.std.specs.Prelude.{nat_lt}
use Rattle.std.proofs.lemmas.Bool.{ltb-true, ltb-false, lt-ltb, eqb-true, and_parts}
use Rattle.std.proofs.lemmas.List.{take_all}
use Rattle.std.proofs.lemmas.Nat.{pow_pos, mod_below}
use native.Mathlib.Nat.{pow-zero}
use Rattle.zarr_codecs_meaning.specs.Numbers.{digits, number}
use Rattle.zarr_codecs_meaning.specs.Types.{Sign, Component, unsigned, signed, integer, extended, are_bytes, is_component, is_value_in_bytes}
use Rattle.zarr_codecs_meaning.proofs.Lists.{Each}
use Rattle.zarr_codecs_meaning.proofs.Digits.{bytes_below, digits_number}
use Rattle.zarr_codecs_types.specs.Integers.{integer_bytes}
use Rattle.zarr_codecs_types.specs.FillMetadata.{integer_from, integer_fits}
use Rattle.zarr_codecs_types.proofs.Extended.{number_below}

-- ---- powers

power_positive : (k : ℕ) → 0 < 256 ^ k
power_positive zero = omega (arith, pow-zero 256)
power_positive (suc k) = let rest = power_positive k in omega (arith, pow-suc 256 k)

pub power_less : (k m : ℕ) → k ≤ m → 256 ^ k ≤ 256 ^ m
power_less zero m h = let one = pow-zero 256 in let p = power_positive m in omega arith
power_less (suc k) zero h = absurd (omega arith)
power_less (suc k) (suc m) h = let rest = power_less k m (omega arith) in omega (arith, pow-suc 256 k, pow-suc 256 m)

-- a number of eight bytes
pub number_fits : (bs : List ℕ) → Each (λ b. b < 256) bs → length bs ≤ 8 → number 256 bs < 2 ^ 64
number_fits bs h few = lt_of_lt_of_le (number_below bs h) (power_less (length bs) 8 few)

pub number_rest : (bs : List ℕ) (rest : ℕ) → Each (λ b. b < 256) bs → 1 ≤ length bs → length bs ≤ 8 → rest ≡ number 256 (take (length bs - 1) (drop 1 bs)) → get_or bs 0 0 + 256 * rest < 2 ^ 64
number_rest [] rest h one few is = absurd (omega arith)
number_rest (b ∷ bs) rest h one few is =
    let all : take (suc (length bs) - 1) bs ≡ bs = take_all (suc (length bs) - 1) bs (omega arith) in
    let same : rest ≡ number 256 bs = is ∙ ap (number 256) all in
    subst (λ n. b + 256 * n < 2 ^ 64) (sym same) (number_fits (b ∷ bs) h few)

-- ---- what a value of a type of integers is

pub record IsIntegerValue (sign : Sign) (width : ℕ) (bytes : List ℕ) : Type 0 where
  pub below : Each (λ b. b < 256) bytes
  pub long : length bytes ≡ (width + 7) / 8
  pub fine : number 256 bytes ≡ extended sign width (length bytes) (number 256 bytes % 2 ^ width)

pub integer_value : (sign : Sign) (width : ℕ) (bytes : List ℕ) → is_value_in_bytes (integer sign width) bytes ≡ true → IsIntegerValue sign width bytes
integer_value sign width bytes h =
    let count = (width + 7) / 8 in
    let part : Component = record { width = width; byte_count = count; sign = sign } in
    let one = and_parts (are_bytes bytes) ((length bytes == count + 0) && (is_component part (take count bytes) && true)) h in
    let two = and_parts (length bytes == count + 0) (is_component part (take count bytes) && true) one.1 in
    let three = and_parts (is_component part (take count bytes)) true two.1 in
    let long : length bytes ≡ count = eqb-true (length bytes) (count + 0) two.0 ∙ omega arith in
    let all : take count bytes ≡ bytes = take_all count bytes (omega (arith, long)) in
    let fine : is_component part bytes ≡ true = ap (is_component part) (sym all) ∙ three.0 in
    record {
      below = bytes_below bytes one.0;
      long = long;
      fine = eqb-true (number 256 bytes) (extended sign width count (number 256 bytes % 2 ^ width)) fine ∙ ap (λ n. extended sign width n (number 256 bytes % 2 ^ width)) (sym long);
    }

-- ---- negative numbers

double_power : (width : ℕ) → 2 ^ width ≤ 2 * 2 ^ (width - 1)
double_power zero = omega (arith, pow-zero 2)
double_power (suc w) = let e : suc w - 1 ≡ w = omega arith in let g = ap (λ n. 2 ^ n) e in omega (arith, pow-suc 2 w)

lowest_at : (b : Bool) (n m all end half : ℕ) → nat_lt m half ≡ b → n ≡ (if b then m else m + (all - end)) → half ≤ n → m < end → end ≤ 2 * half → 0 < half → all - suc n < half
lowest_at true n m all end half is e high within double positive = let less = ltb-true m half is in absurd (omega arith)
lowest_at false n m all end half is e high within double positive = let more = ltb-false m half is in omega arith

-- one that is below zero is in range
pub lowest : (width : ℕ) (bytes : List ℕ) → IsIntegerValue signed width bytes → 2 ^ (width - 1) ≤ number 256 bytes → 256 ^ length bytes - suc (number 256 bytes) < 2 ^ (width - 1)
lowest width bytes h high =
    let m = number 256 bytes % 2 ^ width in
    let end_positive = pow_pos width in
    let within : m < 2 ^ width = mod_below (number 256 bytes) (2 ^ width) end_positive in
    lowest_at (nat_lt m (2 ^ (width - 1))) (number 256 bytes) m (256 ^ length bytes) (2 ^ width) (2 ^ (width - 1)) refl h.fine high within (double_power width) (pow_pos (width - 1))

-- ---- the integer that bytes are

unsigned_below : (width : ℕ) (bytes : List ℕ) → IsIntegerValue unsigned width bytes → number 256 bytes < 2 ^ width
unsigned_below width bytes h = subst (λ n. n < 2 ^ width) (sym h.fine) (mod_below (number 256 bytes) (2 ^ width) (pow_pos width))

fits_at : (b : Bool) (width n below : ℕ) → nat_lt n (2 ^ (width - 1)) ≡ b → (2 ^ (width - 1) ≤ n → below < 2 ^ (width - 1)) → integer_fits signed width (if b then pos n else negsuc below) ≡ true
fits_at true width n below is h = is
fits_at false width n below is h = lt-ltb below (2 ^ (width - 1)) (h (ltb-false n (2 ^ (width - 1)) is))

pub from_fits : (sign : Sign) (width : ℕ) (bytes : List ℕ) → IsIntegerValue sign width bytes → integer_fits sign width (integer_from sign width bytes) ≡ true
from_fits unsigned width bytes h = lt-ltb (number 256 bytes) (2 ^ width) (unsigned_below width bytes h)
from_fits signed width bytes h = fits_at (nat_lt (number 256 bytes) (2 ^ (width - 1))) width (number 256 bytes) (256 ^ length bytes - suc (number 256 bytes)) refl (λ high. lowest width bytes h high)

written_at : (b : Bool) (bytes : List ℕ) → Each (λ b. b < 256) bytes → integer_bytes (length bytes) (if b then pos (number 256 bytes) else negsuc (256 ^ length bytes - suc (number 256 bytes))) ≡ bytes
written_at true bytes h = digits_number 256 bytes h
written_at false bytes h =
    let small = number_below bytes h in
    let all = 256 ^ length bytes in
    let e : all - suc (all - suc (number 256 bytes)) ≡ number 256 bytes = omega arith in
    ap (digits 256 (length bytes)) e ∙ digits_number 256 bytes h

pub from_back : (sign : Sign) (width : ℕ) (bytes : List ℕ) → IsIntegerValue sign width bytes → integer_bytes ((width + 7) / 8) (integer_from sign width bytes) ≡ bytes
from_back unsigned width bytes h = ap (λ n. integer_bytes n (integer_from unsigned width bytes)) (sym h.long) ∙ written_at true bytes h.below
from_back signed width bytes h = ap (λ n. integer_bytes n (integer_from signed width bytes)) (sym h.long) ∙ written_at (nat_lt (number 256 bytes) (2 ^ (width - 1))) bytes h.below
