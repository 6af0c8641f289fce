-- The bits of a component, of those that were kept of it.
use Rattle.std.proofs.Common.{◌≡◌, ℕ, zero, suc, ◌+◌, ◌-◌, ◌*◌, ◌/◌, ◌^◌, ◌<◌, ◌≤◌, List, [], ◌∷◌, ◌++◌, length, get_or, take, drop, replicate, ap, ◌∙◌, sym, refl, subst, arith, Bool, if◌then◌else◌, inl, inr, append_assoc, append-nil, length-append, length-take, take-append-drop, drop-cons, pow-suc, pow-add, pow_mono}
use Rattle.std.specs.Prelude.{nat_lt}
use Rattle.std.proofs.lemmas.Bool.{cases_lt, lt-ltb, le-ltb}
use Rattle.std.proofs.lemmas.List.{take_all, drop_all, length-replicate}
use Rattle.std.proofs.Math.Seq.{take-append-add}
use native.Mathlib.Nat.{pow-zero}
use Rattle.zarr_codecs_meaning.specs.Numbers.{digits, number}
use Rattle.zarr_codecs_meaning.specs.Types.{Sign, signed, unsigned, extended}
use Rattle.zarr_codecs_meaning.proofs.Lists.{each_append, each_get, zero_list}
use Rattle.zarr_codecs_meaning.proofs.Digits.{each-take}
use Rattle.zarr_codecs_meaning.proofs.KeptBits.{number_below}
use Rattle.zarr_codecs_meaning.proofs.Words.{bytes_power}
use Rattle.zarr_codecs_packbits.specs.Turning.{bit_above}
use Rattle.zarr_codecs_packbits.proofs.BitLists.{AreBits, number_append, number_drop, digits_fill}

number_zeros : (n : ℕ) → number 2 (replicate n 0) ≡ 0
number_zeros zero = refl
number_zeros (suc n) = let rest = number_zeros n in omega (arith, rest)

number_ones : (n : ℕ) → number 2 (replicate n 1) + 1 ≡ 2 ^ n
number_ones zero = omega (arith, pow-zero 2)
number_ones (suc n) = let rest = number_ones n in omega (arith, rest, pow-suc 2 n)

copies : (n b : ℕ) → b < 2 → AreBits (replicate n b)
copies zero b h = tt
copies (suc n) b h = (h, copies n b h)

-- bits at their place
placed : (first : ℕ) (kept : List ℕ) → number 2 (zero_list first ++ kept) ≡ number 2 kept * 2 ^ first
placed first kept =
    let below : 2 ^ length (zero_list first) * number 2 kept ≡ 2 ^ first * number 2 kept = ap (λ k. 2 ^ k * number 2 kept) (length-replicate first 0) in
    let turned : 2 ^ first * number 2 kept ≡ number 2 kept * 2 ^ first = grind arith in
    number_append (zero_list first) kept ∙ omega (arith, number_zeros first, below, turned)

length-placed : (first : ℕ) (kept : List ℕ) → length (zero_list first ++ kept) ≡ first + length kept
length-placed first kept = length-append (zero_list first) kept ∙ ap (λ n. n + length kept) (length-replicate first 0)

-- the last of some bits
split_last : (kept : List ℕ) → 0 < length kept → kept ≡ take (length kept - 1) kept ++ get_or kept (length kept - 1) 0 ∷ []
split_last kept some =
    let n = length kept - 1 in
    let last : drop n kept ≡ get_or kept n 0 ∷ [] = drop-cons kept n 0 (omega (arith, some)) ∙ ap (λ ns. get_or kept n 0 ∷ ns) (drop_all (suc n) kept (omega arith)) in
    sym (take-append-drop n kept) ∙ ap (λ ns. take n kept ++ ns) last

-- a sign that is copied upwards
sign_cases : (b low half k gap end v : ℕ) → b < 2 → v ≡ low + half * b → low < half → gap ≡ end * number 2 (replicate k 1) → (if nat_lt v half then v else v + gap) ≡ v + end * number 2 (replicate k b)
sign_cases zero low half k gap end v h is less g =
    let zeros = ap (λ j. end * j) (number_zeros k) in
    let small : v < half = omega (arith, is, less) in
    ap (λ (t : Bool). if t then v else v + gap) (lt-ltb v half small) ∙ omega (arith, zeros)
sign_cases (suc zero) low half k gap end v h is less g =
    let large : half ≤ v = omega (arith, is) in
    ap (λ (t : Bool). if t then v else v + gap) (le-ltb v half large) ∙ ap (λ j. v + j) g
sign_cases (suc (suc b)) low half k gap end v h is less g = absurd (omega arith)

-- the bits between a number's own and those of its bytes
gap_is : (bits n : ℕ) → 256 ^ n - 2 ^ bits ≡ 2 ^ bits * number 2 (replicate (8 * n - bits) 1)
gap_is bits n =
    let k = 8 * n - bits in
    let ones = number 2 (replicate k 1) in
    let power = bytes_power n in
    elim (cases_lt bits (8 * n)) as (λ _. 256 ^ n - 2 ^ bits ≡ 2 ^ bits * ones) [
      | inl less ↦
          let split : 8 * n ≡ k + bits = omega (arith, less) in
          let turned : (ones + 1) * 2 ^ bits ≡ 2 ^ bits * ones + 2 ^ bits = grind arith in
          let whole : 256 ^ n ≡ (ones + 1) * 2 ^ bits = power ∙ (ap (λ j. 2 ^ j) split ∙ (pow-add 2 k bits ∙ ap (λ j. j * 2 ^ bits) (sym (number_ones k)))) in
          omega (arith, whole, turned)
      | inr more ↦
          let none : k ≡ 0 = omega (arith, more) in
          let larger : 2 ^ (8 * n) ≤ 2 ^ bits = pow_mono more in
          let zeros : 2 ^ bits * ones ≡ 2 ^ bits * 0 = ap (λ j. 2 ^ bits * number 2 (replicate j 1)) none in
          omega (arith, larger, power, zeros)
    ]

-- an extended number is that of the bits at their place, and copies of the bit above them
whole_bits : (sign : Sign) (n first : ℕ) (kept : List ℕ) → AreBits kept → 0 < length kept
    → extended sign (first + length kept) n (number 2 kept * 2 ^ first) ≡ number 2 ((zero_list first ++ kept) ++ replicate (8 * n - (first + length kept)) (bit_above sign kept))
whole_bits unsigned n first kept h some =
    let xs = zero_list first ++ kept in
    let k = 8 * n - (first + length kept) in
    let zeros : 2 ^ length xs * number 2 (replicate k 0) ≡ 2 ^ length xs * 0 = ap (λ m. 2 ^ length xs * m) (number_zeros k) in
    sym (number_append xs (replicate k 0) ∙ omega (arith, zeros, placed first kept))
whole_bits signed n first kept h some =
    let xs = zero_list first ++ kept in
    let bits = first + length kept in
    let k = 8 * n - bits in
    let b = get_or kept (length kept - 1) 0 in
    let front = take (length kept - 1) kept in
    let low = zero_list first ++ front in
    let v = number 2 kept * 2 ^ first in
    let one : b < 2 = each_get (λ d. d < 2) kept (length kept - 1) 0 h (omega arith) in
    let long : length low ≡ bits - 1 = length-placed first front ∙ omega (arith, length-take (length kept - 1) kept, some) in
    let cut : xs ≡ low ++ b ∷ [] = ap (λ ks. zero_list first ++ ks) (split_last kept some) ∙ sym (append_assoc (zero_list first) front (b ∷ [])) in
    let top : 2 ^ length low * number 2 (b ∷ []) ≡ 2 ^ (bits - 1) * b = ap (λ j. 2 ^ j * number 2 (b ∷ [])) long ∙ ap (λ j. 2 ^ (bits - 1) * j) {x = number 2 (b ∷ [])} {y = b} (omega arith) in
    let value : v ≡ number 2 low + 2 ^ (bits - 1) * b = sym (placed first kept) ∙ (ap (number 2) cut ∙ (number_append low (b ∷ []) ∙ ap (λ j. number 2 low + j) top)) in
    let less : number 2 low < 2 ^ (bits - 1) = subst (λ j. number 2 low < 2 ^ j) long (number_below 2 low (each_append (λ d. d < 2) (zero_list first) front (copies first 0 (omega arith)) (each-take (λ d. d < 2) (length kept - 1) kept h))) in
    let joined : number 2 (xs ++ replicate k b) ≡ v + 2 ^ bits * number 2 (replicate k b) =
    number_append xs (replicate k b) ∙ (ap (λ j. j + 2 ^ length xs * number 2 (replicate k b)) (placed first kept) ∙ ap (λ j. v + 2 ^ j * number 2 (replicate k b)) (length-placed first kept)) in
    sign_cases b (number 2 low) (2 ^ (bits - 1)) k (256 ^ n - 2 ^ bits) (2 ^ bits) v one value less (gap_is bits n) ∙ sym joined

-- ---- what is written

take_more : (n : ℕ) (xs ys : List ℕ) → take n (xs ++ ys) ≡ take n xs ++ take (n - length xs) ys
take_more zero xs ys = let e : 0 - length xs ≡ 0 = omega arith in sym (ap (λ k. take k ys) e)
take_more (suc n) [] ys = let e : suc n ≡ suc n - 0 = omega arith in ap (λ k. take k ys) e
take_more (suc n) (x ∷ xs) ys = let e : suc n - suc (length xs) ≡ n - length xs = omega arith in ap (λ ns. x ∷ ns) (take_more n xs ys) ∙ ap (λ k. x ∷ (take n xs ++ take k ys)) (sym e)

-- bits that were cut to their number, or filled up to it, after others
filled_after : (old xs : List ℕ) (count a : ℕ) → take (length old + count) (old ++ xs) ++ replicate ((length old + count) - length (old ++ xs)) a ≡ old ++ (take count xs ++ replicate (count - length xs) a)
filled_after old xs count a =
    let e : (length old + count) - length (old ++ xs) ≡ count - length xs = ap (λ n. (length old + count) - n) (length-append old xs) ∙ omega arith in
    ap (λ n. take (length old + count) (old ++ xs) ++ replicate n a) e
    ∙ (ap (λ ns. ns ++ replicate (count - length xs) a) (take-append-add old xs count) ∙ append_assoc old (take count xs) (replicate (count - length xs) a))

above_is_bit : (sign : Sign) (kept : List ℕ) → AreBits kept → bit_above sign kept < 2
above_is_bit unsigned kept h = omega arith
above_is_bit signed kept h = each_get (λ d. d < 2) kept (length kept - 1) 0 h (omega arith)

restored : (sign : Sign) (n first : ℕ) (kept : List ℕ) → AreBits kept → 0 < length kept → let xs = zero_list first ++ kept in
    digits 2 (8 * n) (extended sign (first + length kept) n (number 2 kept * 2 ^ first)) ≡ take (8 * n) xs ++ replicate (8 * n - length xs) (bit_above sign kept)
restored sign n first kept h some =
    let xs = zero_list first ++ kept in
    let a = bit_above sign kept in
    let k = 8 * n - (first + length kept) in
    let ys = xs ++ replicate k a in
    let same : k ≡ 8 * n - length xs = ap (λ j. 8 * n - j) (sym (length-placed first kept)) in
    let are = each_append (λ d. d < 2) xs (replicate k a) (each_append (λ d. d < 2) (zero_list first) kept (copies first 0 (omega arith)) h) (copies k a (above_is_bit sign kept h)) in
    let none : 8 * n - length ys ≡ 0 = omega (arith, same, length-append xs (replicate k a), length-replicate k a) in
    ap (digits 2 (8 * n)) (whole_bits sign n first kept h some)
    ∙ (digits_fill (8 * n) ys are
    ∙ (ap (λ j. take (8 * n) ys ++ replicate j 0) none
    ∙ (append-nil (take (8 * n) ys)
    ∙ (take_more (8 * n) xs (replicate k a)
    ∙ (ap (λ j. take (8 * n) xs ++ take (8 * n - length xs) (replicate j a)) same
    ∙ ap (λ ns. take (8 * n) xs ++ ns) (take_all (8 * n - length xs) (replicate (8 * n - length xs) a) (omega (arith, length-replicate (8 * n - length xs) a))))))))

-- what is written of a component
pub restored_written : (sign : Sign) (n first : ℕ) (kept old zeros more made : List ℕ) (from end count : ℕ) → AreBits kept → 0 < length kept → count ≡ n * 8 → from ≡ length old + first → end ≡ length old + count
    → zeros ≡ take from old ++ replicate (from - length old) 0 → more ≡ zeros ++ kept → made ≡ take end more ++ replicate (end - length more) (bit_above sign kept)
    → made ≡ old ++ digits 2 (8 * n) (extended sign (first + length kept) n (number 2 kept * 2 ^ first))
restored_written sign n first kept old zeros more made from end count h some c f e z m w =
    let xs = zero_list first ++ kept in
    let a = bit_above sign kept in
    let left : from - length old ≡ first = omega (arith, f) in
    let begun : zeros ≡ old ++ zero_list first = z ∙ (ap (λ ns. ns ++ replicate (from - length old) 0) (take_all from old (omega (arith, f))) ∙ ap (λ k. old ++ replicate k 0) left) in
    let all : more ≡ old ++ xs = m ∙ (ap (λ ns. ns ++ kept) begun ∙ append_assoc old (zero_list first) kept) in
    let stop : end ≡ length old + 8 * n = omega (arith, e, c) in
    w ∙ (ap (λ ns. take end ns ++ replicate (end - length ns) a) all
    ∙ (ap (λ k. take k (old ++ xs) ++ replicate (k - length (old ++ xs)) a) stop
    ∙ (filled_after old xs (8 * n) a ∙ ap (λ ns. old ++ ns) (sym (restored sign n first kept h some)))))

pub kept_written : (first kept : ℕ) (component old more made : List ℕ) (end : ℕ) → AreBits component → end ≡ length old + kept → more ≡ old ++ drop first component → made ≡ take end more ++ replicate (end - length more) 0
    → made ≡ old ++ digits 2 kept (number 2 component / 2 ^ first)
kept_written first kept component old more made end h e m w =
    let ds = drop first component in
    w ∙ (ap (λ ns. take end ns ++ replicate (end - length ns) 0) m
    ∙ (ap (λ k. take k (old ++ ds) ++ replicate (k - length (old ++ ds)) 0) e
    ∙ (filled_after old ds kept 0 ∙ ap (λ ns. old ++ ns) (sym (ap (digits 2 kept) (number_drop first component h) ∙ digits_fill kept ds (dropped first component h)))))) where
      dropped : (n : ℕ) (ds : List ℕ) → AreBits ds → AreBits (drop n ds)
      dropped zero ds h = h
      dropped (suc n) [] h = tt
      dropped (suc n) (d ∷ ds) h = dropped n ds h.1
