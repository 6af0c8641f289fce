-- Bits packed, as the digits of one number.
use Rattle.std.proofs.Common.{◌≡◌, ℕ, zero, suc, ◌+◌, ◌-◌, ◌*◌, ◌/◌, ◌%◌, ◌^◌, ◌<◌, ◌≤◌, List, ◌∷◌, ◌++◌, length, map, get_or, take, drop, ap, ap₂, ◌∙◌, sym, refl, arith, inl, inr, append_assoc, length-append, length-take, length-drop, take-append-drop, drop-cons, pow_mono, pow-suc}
use Rattle.std.specs.List.{range_with_len}
use Rattle.std.specs.Int.{to_le_bytes, bytes_low_first, w64}
use Rattle.std.proofs.lemmas.Bool.{cases_lt}
use Rattle.std.proofs.lemmas.Grind.{flat_map-append}
use Rattle.std.proofs.lemmas.List.{nil_from_length, drop-drop, take-append-le, drop-append-le, drop_all}
use Rattle.std.proofs.lemmas.Nat.{div-mul-add, mod-mul-add}
use Rattle.std.proofs.Math.Nat.{div-div-eq-div-mul, mul-le-mul_right}
use native.Mathlib.Nat.{pow-zero}
use Rattle.zarr_codecs_meaning.specs.Numbers.{digits, number}
use Rattle.zarr_codecs_meaning.specs.Encoding.{packed}
use Rattle.zarr_codecs_meaning.proofs.Lists.{every, length-flat_map}
use Rattle.zarr_codecs_meaning.proofs.Values.{length-digits}
use Rattle.zarr_codecs_meaning.proofs.Digits.{number_digits, digits_below, each-drop, each-take}
use Rattle.zarr_codecs_meaning.proofs.Elements.{each-flat_map}
use Rattle.zarr_codecs_meaning.proofs.KeptBits.{number_below}
use Rattle.zarr_codecs_packbits.specs.Packing.{bits_from}
use Rattle.zarr_codecs_packbits.proofs.BitLists.{AreBits, number_append}

-- ---- a byte after another

shifted : (f g : ℕ → ℕ) (a b n : ℕ) → ((i : ℕ) → f (a + i) ≡ g (b + i)) → map f (range_with_len a n) ≡ map g (range_with_len b n)
shifted f g a b zero h = refl
shifted f g a b (suc n) h =
    let here : f a ≡ g b = let x : a ≡ a + 0 = omega arith in let y : b + 0 ≡ b = omega arith in ap f x ∙ (h 0 ∙ ap g y) in
    let next : (i : ℕ) → f (a + 1 + i) ≡ g (b + 1 + i) = λ i. let x : a + 1 + i ≡ a + (i + 1) = omega arith in let y : b + (i + 1) ≡ b + 1 + i = omega arith in ap f x ∙ (h (i + 1) ∙ ap g y) in
    ap₂ (λ m ms. m ∷ ms) here (shifted f g (a + 1) (b + 1) n next)

-- the first byte of bits, and those of the others
packed_more : (bits : List ℕ) → 0 < length bits → packed bits ≡ number 2 (take 8 bits) ∷ packed (drop 8 bits)
packed_more bits some =
    let rest = drop 8 bits in
    let byte : ℕ → ℕ = λ n. number 2 (take 8 (drop (8 * n) bits)) in
    let other : ℕ → ℕ = λ n. number 2 (take 8 (drop (8 * n) rest)) in
    let long = length-drop 8 bits in
    let count : (length bits + 7) / 8 ≡ suc ((length rest + 7) / 8) = omega (arith, long, some) in
    let next : (i : ℕ) → byte (1 + i) ≡ other (0 + i) = λ i. ap (λ ns. number 2 (take 8 ns)) (let e : 8 * (1 + i) ≡ 8 + 8 * (0 + i) = omega arith in ap (λ n. drop n bits) e ∙ sym (drop-drop (8 * (0 + i)) 8 bits)) in
    ap (λ n. map byte (range_with_len 0 n)) count ∙ ap (λ ns. number 2 (take 8 bits) ∷ ns) (shifted byte other 1 0 ((length rest + 7) / 8) next)

byte_small : (bits : List ℕ) → AreBits bits → number 2 (take 8 bits) < 256
byte_small bits h =
    let below = number_below 2 (take 8 bits) (each-take (λ b. b < 2) 8 bits h) in
    let few : length (take 8 bits) ≤ 8 = omega (arith, length-take 8 bits) in
    let most : 2 ^ length (take 8 bits) ≤ 2 ^ 8 = pow_mono few in
    omega (arith, below, most)

byte_value : (bits : List ℕ) → number 2 bits ≡ number 2 (drop 8 bits) * 256 + number 2 (take 8 bits)
byte_value bits =
    let front = take 8 bits in
    let back = drop 8 bits in
    let all : number 2 bits ≡ number 2 front + 2 ^ length front * number 2 back = ap (number 2) (sym (take-append-drop 8 bits)) ∙ number_append front back in
    let turned : 256 * number 2 back ≡ number 2 back * 256 = grind arith in
    elim (cases_lt (length bits) 8) [
      | inl less ↦ (let none : number 2 back ≡ 0 = ap (number 2) (drop_all 8 bits (omega (arith, less))) in
          let nothing : 2 ^ length front * number 2 back ≡ 2 ^ length front * 0 = ap (λ n. 2 ^ length front * n) none in
          omega (arith, all, none, nothing))
      | inr enough ↦ (let long : length front ≡ 8 = length-take 8 bits ∙ omega (arith, enough) in
          let power : 2 ^ length front * number 2 back ≡ 256 * number 2 back = ap (λ n. 2 ^ n * number 2 back) long in
          omega (arith, all, power, turned))
    ]

-- the digits of the number of bits
byte_digits : (k : ℕ) (bits : List ℕ) → AreBits bits → digits 256 (suc k) (number 2 bits) ≡ number 2 (take 8 bits) ∷ digits 256 k (number 2 (drop 8 bits))
byte_digits k bits h =
    let low = number 2 (take 8 bits) in
    let m = number 2 (drop 8 bits) in
    let small = byte_small bits h in
    ap (digits 256 (suc k)) (byte_value bits) ∙ ap₂ (λ n ns. n ∷ digits 256 k ns) (mod-mul-add m 256 low small) (div-mul-add m 256 low small)

pub packed_whole : (k : ℕ) (bits : List ℕ) → AreBits bits → (length bits + 7) / 8 ≡ k → packed bits ≡ digits 256 k (number 2 bits)
packed_whole zero bits h long = ap packed (nil_from_length bits (omega (arith, long)))
packed_whole (suc k) bits h long =
    let some : 0 < length bits = omega (arith, long) in
    let rest : (length (drop 8 bits) + 7) / 8 ≡ k = omega (arith, long, length-drop 8 bits) in
    packed_more bits some ∙ (ap (λ ns. number 2 (take 8 bits) ∷ ns) (packed_whole k (drop 8 bits) (each-drop (λ b. b < 2) 8 bits h) rest) ∙ sym (byte_digits k bits h))

pub packed_front : (k : ℕ) (xs ys : List ℕ) → AreBits xs → length xs ≡ 8 * k → packed (xs ++ ys) ≡ digits 256 k (number 2 xs) ++ packed ys
packed_front zero xs ys h long = ap (λ zs. packed (zs ++ ys)) (nil_from_length xs (long ∙ omega arith))
packed_front (suc k) xs ys h long =
    let enough : 8 ≤ length xs = omega (arith, long) in
    let some : 0 < length (xs ++ ys) = omega (arith, enough, length-append xs ys) in
    let rest : length (drop 8 xs) ≡ 8 * k = length-drop 8 xs ∙ omega (arith, long) in
    packed_more (xs ++ ys) some
    ∙ (ap₂ (λ ms ns. number 2 ms ∷ packed ns) (take-append-le 8 xs ys enough) (drop-append-le 8 xs ys enough)
    ∙ (ap (λ ns. number 2 (take 8 xs) ∷ ns) (packed_front k (drop 8 xs) ys (each-drop (λ b. b < 2) 8 xs h) rest)
    ∙ ap (λ ns. ns ++ packed ys) (sym (byte_digits k xs h))))

-- ---- the kept bits of bytes

pub from_are_bits : (first count : ℕ) (bytes : List ℕ) → AreBits (bits_from first count bytes)
from_are_bits first count bytes = each-flat_map (λ b. b < 2) (λ b. digits 2 count (b / 2 ^ first)) bytes (λ b. digits_below 2 count (b / 2 ^ first) (omega arith))

pub length-bits_from : (first count : ℕ) (bytes : List ℕ) → length (bits_from first count bytes) ≡ length bytes * count
length-bits_from first count bytes = length-flat_map (λ b. digits 2 count (b / 2 ^ first)) count bytes (every (λ b. length (digits 2 count (b / 2 ^ first)) ≡ count) bytes (λ b. length-digits 2 count (b / 2 ^ first)))

pub padding_counted : (n count : ℕ) → (n * count) % 8 ≡ (n % 8 * count) % 8
padding_counted n count =
    let parts : n ≡ n / 8 * 8 + n % 8 = omega arith in
    let all : n * count ≡ (n / 8 * 8 + n % 8) * count = ap (λ m. m * count) parts in
    let split : (n / 8 * 8 + n % 8) * count ≡ 8 * (n / 8 * count) + n % 8 * count = grind arith in
    omega (arith, all, split)

-- eight bytes more
pub eight_bytes_more : (first count : ℕ) (rest eight others old next made : List ℕ) → eight ≡ take 8 rest → others ≡ drop 8 rest → length others + 8 ≡ length rest
    → next ≡ old ++ digits 256 count (number 2 (bits_from first count eight)) → old ++ packed (bits_from first count rest) ≡ made → next ++ packed (bits_from first count others) ≡ made
eight_bytes_more first count rest eight others old next made front back long is so_far =
    let xs = bits_from first count eight in
    let ys = bits_from first count others in
    let f : ℕ → List ℕ = λ b. digits 2 count (b / 2 ^ first) in
    let split : bits_from first count rest ≡ xs ++ ys = ap (bits_from first count) (sym (take-append-drop 8 rest)) ∙ (flat_map-append f (take 8 rest) (drop 8 rest) ∙ ap₂ (λ ms ns. bits_from first count ms ++ bits_from first count ns) (sym front) (sym back)) in
    let eight_long : length eight ≡ 8 = ap length front ∙ (length-take 8 rest ∙ omega (arith, long)) in
    let many : length xs ≡ 8 * count = length-bits_from first count eight ∙ ap (λ n. n * count) eight_long in
    ap (λ ns. ns ++ packed ys) is
    ∙ (append_assoc old (digits 256 count (number 2 xs)) (packed ys)
    ∙ (ap (λ ns. old ++ ns) (sym (packed_front count xs ys (from_are_bits first count eight) many)) ∙ (ap (λ ns. old ++ packed ns) (sym split) ∙ so_far)))

-- the bytes that are left
pub last_bytes : (first count : ℕ) (rest old next made : List ℕ) → next ≡ old ++ digits 256 ((length rest * count + 7) / 8) (number 2 (bits_from first count rest)) → old ++ packed (bits_from first count rest) ≡ made → next ≡ made
last_bytes first count rest old next made is so_far =
    let bits = bits_from first count rest in
    is ∙ (ap (λ ns. old ++ ns) (sym (packed_whole ((length rest * count + 7) / 8) bits (from_are_bits first count rest) (ap (λ n. (n + 7) / 8) (length-bits_from first count rest)))) ∙ so_far)

-- ---- the number of the kept bits

pub record IsNext (first count i : ℕ) (bytes : List ℕ) (word low : ℕ) : Type 0 where
  pub is : word * 2 ^ count + low ≡ number 2 (bits_from first count (drop (length bytes - (i + 1)) bytes))
  pub small : word * 2 ^ count + low < 2 ^ 64

pub next_byte : (first count i word low : ℕ) (bytes : List ℕ) → count ≤ 8 → length bytes ≤ 8 → i < length bytes → word ≡ number 2 (bits_from first count (drop (length bytes - i) bytes)) → low ≡ get_or bytes (length bytes - 1 - i) 0 / 2 ^ first % 2 ^ count
    → IsNext first count i bytes word low
next_byte first count i word low bytes few short less so_far one =
    let k = length bytes - 1 - i in
    let b = get_or bytes k 0 in
    let rest = drop (length bytes - i) bytes in
    let from : length bytes - (i + 1) ≡ k = omega (arith, less) in
    let next : suc k ≡ length bytes - i = omega (arith, less) in
    let bs : drop (length bytes - (i + 1)) bytes ≡ b ∷ rest = ap (λ n. drop n bytes) from ∙ (drop-cons bytes k 0 (omega (arith, less)) ∙ ap (λ n. b ∷ drop n bytes) next) in
    let ds = digits 2 count (b / 2 ^ first) in
    let power : 2 ^ length ds * number 2 (bits_from first count rest) ≡ word * 2 ^ count = ap₂ (λ n m. 2 ^ n * m) (length-digits 2 count (b / 2 ^ first)) (sym so_far) ∙ grind arith in
    let value : number 2 (bits_from first count (b ∷ rest)) ≡ number 2 ds + 2 ^ length ds * number 2 (bits_from first count rest) = number_append ds (bits_from first count rest) in
    let low_is : number 2 ds ≡ low = number_digits 2 count (b / 2 ^ first) (omega arith) ∙ sym one in
    let is : word * 2 ^ count + low ≡ number 2 (bits_from first count (drop (length bytes - (i + 1)) bytes)) = omega (arith, value, low_is, power) ∙ sym (ap (λ ns. number 2 (bits_from first count ns)) bs) in
    let all = drop (length bytes - (i + 1)) bytes in
    let below = number_below 2 (bits_from first count all) (from_are_bits first count all) in
    let long : length (bits_from first count all) ≡ length all * count = length-bits_from first count all in
    let few_bytes : length all ≤ 8 = omega (arith, short, length-drop (length bytes - (i + 1)) bytes) in
    let most : length all * count ≤ 8 * count = mul-le-mul_right {m = length all} {n = 8} count few_bytes in
    let few_bits : length (bits_from first count all) ≤ 64 = omega (arith, long, most, few) in
    let fits : 2 ^ length (bits_from first count all) ≤ 2 ^ 64 = pow_mono few_bits in
    record { is = is; small = omega (arith, is, below, fits) }

-- ---- bytes of a word

next_low : (n i : ℕ) → n / 256 ^ suc i ≡ n / 256 ^ i / 256
next_low n i = ap (λ p. n / p) (pow-suc 256 i) ∙ sym (div-div-eq-div-mul n (256 ^ i) 256)

low_bytes : (i k n : ℕ) → bytes_low_first i k n ≡ digits 256 k (n / 256 ^ i)
low_bytes i zero n = refl
low_bytes zero (suc k) n =
    let one = pow-zero 256 in
    let same : n / 256 ^ 0 ≡ n = omega arith in
    let next : n / 256 ^ 1 ≡ n / 256 = refl in
    ap (λ ns. n % 256 ∷ ns) (low_bytes 1 k n ∙ ap (digits 256 k) next) ∙ ap (digits 256 (suc k)) (sym same)
low_bytes (suc i) (suc k) n = ap (λ ns. n / 256 ^ suc i % 256 ∷ ns) (low_bytes (suc (suc i)) k n ∙ ap (digits 256 k) (next_low n (suc i)))

digits_take : (k m n : ℕ) → k ≤ m → take k (digits 256 m n) ≡ digits 256 k n
digits_take zero m n h = refl
digits_take (suc k) zero n h = absurd (omega arith)
digits_take (suc k) (suc m) n h = ap (λ ns. n % 256 ∷ ns) (digits_take k m (n / 256) (omega arith))

pub word_front : (count n : ℕ) → count ≤ 8 → take count (to_le_bytes w64 n) ≡ digits 256 count n
word_front count n h = ap (take count) (low_bytes 0 8 n ∙ ap (digits 256 8) (omega (arith, pow-zero 256))) ∙ digits_take count 8 n h
