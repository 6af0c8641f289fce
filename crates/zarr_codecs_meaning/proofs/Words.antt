-- Numbers as cells.
use Rattle.std.proofs.Common.{◌≡◌, ℕ, zero, suc, ◌+◌, ◌*◌, ◌/◌, ◌%◌, ◌^◌, ◌<◌, ◌≤◌, List, [], ◌∷◌, length, take, ap, ◌∙◌, sym, refl, arith, Bool, true, ◌&&◌, ◌==◌, mod-eq_of_lt, pow-add, pow-suc, pow_mono, lt_of_lt_of_le, subst}
use Rattle.std.specs.Prelude.{nat_lt}
use Rattle.std.specs.List.{list_all}
use Rattle.std.proofs.lemmas.Bool.{eq-eqb, lt-ltb}
use Rattle.std.proofs.lemmas.List.{take_all}
use native.Mathlib.Nat.{pow-zero}
use Rattle.zarr_codecs_meaning.specs.Numbers.{digits, number, word}
use Rattle.zarr_codecs_meaning.specs.Types.{integer, unsigned, uint64, of_bytes, is_value, are_bytes}
use Rattle.zarr_codecs_meaning.specs.Encoding.{Pair, pair_cells}
use Rattle.zarr_codecs_meaning.proofs.Lists.{all_pass, each_weaker}
use Rattle.zarr_codecs_meaning.proofs.Values.{length-digits}
use Rattle.zarr_codecs_meaning.proofs.Digits.{number_digits, digits_below}
use Rattle.zarr_codecs_meaning.proofs.Shards.{AreWords}

pub bytes_power : (k : ℕ) → 256 ^ k ≡ 2 ^ (8 * k)
bytes_power zero = pow-zero 256 ∙ sym (ap (λ n. 2 ^ n) {x = 8 * 0} {y = 0} (omega arith))
bytes_power (suc k) =
    let rest = bytes_power k in
    let more : 8 * suc k ≡ 8 * k + 8 = omega arith in
    pow-suc 256 k ∙ (ap (λ n. n * 256) rest ∙ (sym (pow-add 2 (8 * k) 8) ∙ ap (λ n. 2 ^ n) (sym more)))

pub below_bytes : (width n : ℕ) → n < 2 ^ width → n < 256 ^ ((width + 7) / 8)
below_bytes width n h =
    let enough : width ≤ 8 * ((width + 7) / 8) = omega arith in
    subst (λ m. n < m) (sym (bytes_power ((width + 7) / 8))) (lt_of_lt_of_le h (pow_mono enough))

pub number_back : (width n : ℕ) → n < 2 ^ width → number 256 (digits 256 ((width + 7) / 8) n) ≡ n
number_back width n h = number_digits 256 ((width + 7) / 8) n (omega arith) ∙ mod-eq_of_lt (below_bytes width n h)

-- a number below the type's end is a value
pub number_is_value : (width n : ℕ) → n < 2 ^ width → is_value (integer unsigned width) (of_bytes (digits 256 ((width + 7) / 8) n)) ≡ true
number_is_value width n h =
    let k = (width + 7) / 8 in
    let element = digits 256 k n in
    let one : are_bytes element ≡ true = all_pass (λ b. nat_lt b 256) element (each_weaker (λ b. b < 256) (λ b. nat_lt b 256 ≡ true) element (λ b l. lt-ltb b 256 l) (digits_below 256 k n (omega arith))) in
    let two : (length element == k + 0) ≡ true = eq-eqb (length element) (k + 0) (length-digits 256 k n ∙ omega arith) in
    let all : take k element ≡ element = take_all k element (omega (arith, length-digits 256 k n)) in
    let back = number_back width n h in
    let three : (number 256 (take k element) == number 256 (take k element) % 2 ^ width) ≡ true =
    ap (λ ns. number 256 ns == number 256 ns % 2 ^ width) all ∙ (ap (λ m. m == m % 2 ^ width) back ∙ eq-eqb n (n % 2 ^ width) (sym (mod-eq_of_lt h))) in
    ap (λ (b : Bool). b && ((length element == k + 0) && ((number 256 (take k element) == number 256 (take k element) % 2 ^ width) && true))) one
    ∙ (ap (λ (b : Bool). b && ((number 256 (take k element) == number 256 (take k element) % 2 ^ width) && true)) two ∙ ap (λ (b : Bool). b && true) three)

pub pair_cells_are_values : (ps : List Pair) → AreWords ps → list_all (is_value uint64) (pair_cells ps) ≡ true
pair_cells_are_values [] h = refl
pair_cells_are_values (p ∷ ps) h =
    ap (λ (b : Bool). b && (is_value uint64 (of_bytes (word p.1)) && list_all (is_value uint64) (pair_cells ps))) (number_is_value 64 p.0 h.0)
    ∙ (ap (λ (b : Bool). b && list_all (is_value uint64) (pair_cells ps)) (number_is_value 64 p.1 h.1) ∙ pair_cells_are_values ps h.2)
