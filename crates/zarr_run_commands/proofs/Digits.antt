-- Numbers that are written in digits alone.
use Rattle.std.proofs.Common.{◌≡◌, ℕ, ◌^◌, ◌<◌, ◌≤◌, take, drop, ◌==◌, Bool, cond, List, [], ◌∷◌, length, get_or, true, false, nat_lt, Option, Some, None, option_and_then, refl, sym, ap, ◌∙◌, append-nil, eqb-true, ne_eqb, arith}
use Rattle.std.proofs.lemmas.Float.Parse.{scan_numeral-text_of}
use Rattle.std.proofs.Math.Nat.{pow-le-pow_right}
use Rattle.std.proofs.lemmas.Int.Digits.{digits_value-lt}
use Rattle.std.proofs.lemmas.List.{drop_all, length-take}
use Rattle.std.proofs.lemmas.List.Sums.{prefix_len_is}
use Rattle.std.proofs.lemmas.Str.Parse.{digit_at}
use Rattle.std.specs.Float.Numeral.{IsWellFormed, Parts}
use Rattle.std.specs.Char.{is_ascii_digit}
use Rattle.std.specs.List.{prefix_len}
use Rattle.std.specs.Str.Parse.{AllDigits, digits_value}
use Rattle.json.specs.Print.{IsNumber}
use Rattle.json.specs.Word.{after_number, after_digits, after_fraction, after_exponent}
use Rattle.fast_float.specs.Text.{scan}
use Rattle.serde_json.specs.Data.{unsigned}
use Rattle.serde_json.specs.Read.{number_from, number_of}

abbrev digits_parts : List ℕ → Parts
digits_parts s = record { whole = s; point = false; fraction = []; exponent_negative = false; exponent = []; len = length s }

formed : (s : List ℕ) → AllDigits 10 s → IsWellFormed (digits_parts s)
formed s digits = record {
  whole_digits = digits;
  fraction_digits = tt;
  exponent_digits = tt;
  no_point = λ _. refl;
  no_exponent = λ _. refl;
  len_is = ap length (sym (append-nil s));
}

scan_digits : (s : List ℕ) → AllDigits 10 s → scan s ≡ digits_parts s
scan_digits s digits = ap scan (sym (append-nil s)) ∙ scan_numeral-text_of (digits_parts s) (formed s digits)

from_digits : (s : List ℕ) (n : ℕ) → 0 < length s → n ≡ digits_value 10 s → n < 2 ^ 64 → number_from false (digits_parts s) ≡ Some (unsigned n)
from_digits s n some is small =
    let long : nat_lt 0 (length s) ≡ true = grind (arith, some) in
    let same = ap (digits_value 10) (append-nil s) ∙ sym is in
    let fits : nat_lt n (2 ^ 64) ≡ true = grind (arith, small) in
    rw (long, same, fits) refl

pub number_of_all_digits : (s : List ℕ) (n : ℕ) → AllDigits 10 s → 0 < length s → n ≡ digits_value 10 s → n < 2 ^ 64 → number_of s ≡ Some (unsigned n)
unfolding number_of
number_of_all_digits s n digits some is small =
    let first = digit_at s 0 digits some in
    let plain : (get_or s 0 0 == 45) ≡ false = grind (arith, first.0) in
    let read : number_from false (scan s) ≡ number_of s = rw plain in
    sym read ∙ (ap (number_from false) (scan_digits s digits) ∙ from_digits s n some is small)

-- at most 18 digits write a number with room for one more
pub few_below : (bs : List ℕ) (k n : ℕ) → k ≤ 18 → AllDigits 10 (take k bs) → n ≡ digits_value 10 (take k bs) → n < 10 ^ 18
few_below bs k n few digits is =
    let short : length (take k bs) ≤ 18 = omega (arith, length-take k bs) in
    omega (arith, is, digits_value-lt 10 (take k bs) digits, pow-le-pow_right {n = 10} (omega arith) short)

digit_byte : (s : List ℕ) (k : ℕ) → AllDigits 10 s → k < length s → is_ascii_digit (get_or s k 0) ≡ true
digit_byte s k digits less = let range = digit_at s k digits less in grind (arith, range.0, range.1)

all_digits_len : (s : List ℕ) → AllDigits 10 s → prefix_len is_ascii_digit s ≡ length s
all_digits_len s digits = prefix_len_is is_ascii_digit s (length s) 0 (omega arith) (λ k less. digit_byte s k digits less) (λ more. absurd (omega (arith, more)))

-- what follows the digits before a point and an exponent
abbrev rest_of : Option (List ℕ) → Option (List ℕ)
rest_of o = option_and_then after_exponent (option_and_then after_fraction o)

whole_digits : (x : ℕ) (xs : List ℕ) (z : Bool) → (x == 45) ≡ false → (x == 48) ≡ z → cond z (Some (drop 1 (x ∷ xs))) (after_digits (x ∷ xs)) ≡ Some [] → IsNumber (x ∷ xs)
unfolding after_number
whole_digits x xs z signless is read = rw (signless, is) (ap rest_of read)

digits_by_first : (x : ℕ) (xs : List ℕ) (z : Bool) → AllDigits 10 (x ∷ xs) → (x ≡ 48 → length (x ∷ xs) ≡ 1) → (x == 45) ≡ false → (x == 48) ≡ z → IsNumber (x ∷ xs)
digits_by_first x xs true digits zero_alone signless is =
    let alone = zero_alone (eqb-true x 48 is) in
    whole_digits x xs true signless is (ap Some (drop_all 1 (x ∷ xs) (omega (arith, alone))))
digits_by_first x xs false digits zero_alone signless is =
    let s = x ∷ xs in
    let long = all_digits_len s digits in
    let nonzero : (length s == 0) ≡ false = ne_eqb (length s) 0 (λ e. omega (arith, e)) in
    let read : after_digits s ≡ Some (drop (length s) s) = ap (λ n. cond (n == 0) None (Some (drop n s))) long ∙ ap (λ b. cond b None (Some (drop (length s) s))) nonzero in
    whole_digits x xs false signless is (read ∙ ap Some (drop_all (length s) s (omega arith)))

-- digits are a number of JSON, where a zero at their front stands alone
pub digits_number : (s : List ℕ) → AllDigits 10 s → 0 < length s → (get_or s 0 0 ≡ 48 → length s ≡ 1) → IsNumber s
digits_number [] digits some zero_alone = absurd (omega (arith, some))
digits_number (x ∷ xs) digits some zero_alone =
    let first = digit_at (x ∷ xs) 0 digits some in
    let signless : (x == 45) ≡ false = grind (arith, first.0) in
    digits_by_first x xs (x == 48) digits zero_alone signless refl
