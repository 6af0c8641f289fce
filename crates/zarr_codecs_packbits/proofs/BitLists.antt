-- Numbers, and the lists of their bits.
use Rattle.std.proofs.Common.{◌≡◌, ℕ, zero, suc, ◌+◌, ◌-◌, ◌*◌, ◌/◌, ◌%◌, ◌^◌, ◌<◌, ◌≤◌, List, [], ◌∷◌, ◌++◌, length, map, get_or, take, drop, replicate, ap, ◌∙◌, sym, refl, arith, true, length-append, length-take, length-drop, take-append-drop, drop-cons, mod-eq_of_lt, pow-suc}
use Rattle.std.specs.Prelude.{nat_lt}
use Rattle.std.specs.List.{range_with_len}
use Rattle.std.proofs.lemmas.Bool.{lt-ltb, ltb-true}
use Rattle.std.proofs.lemmas.Grind.{flat_map-append}
use Rattle.std.proofs.lemmas.List.{take_at, drop_at}
use Rattle.std.proofs.lemmas.List.FromFn.{fill_by_all}
use Rattle.std.proofs.lemmas.Nat.{div-mul-add, mod-mul-add}
use Rattle.std.proofs.Math.Nat.{div-div-eq-div-mul, div-one, zero-div}
use native.Mathlib.Nat.{pow-zero}
use Rattle.zarr_codecs_meaning.specs.Numbers.{digits, number}
use Rattle.zarr_codecs_meaning.specs.Encoding.{packed}
use Rattle.zarr_codecs_meaning.proofs.Lists.{Each, each_passes, all_pass, each_weaker}
use Rattle.zarr_codecs_meaning.proofs.Values.{length-digits}
use Rattle.zarr_codecs_meaning.proofs.Digits.{number_digits, digits_number, digits_below, each-drop, each-take}
use Rattle.zarr_codecs_meaning.proofs.Elements.{each-flat_map}
use Rattle.zarr_codecs_packbits.specs.Turning.{are_bits, bits_of}

abbrev pub AreBits : List ℕ → Type 0
AreBits bits = Each (λ b. b < 2) bits

pub each_bit : (bits : List ℕ) → are_bits bits ≡ true → AreBits bits
each_bit bits h = each_weaker (λ b. nat_lt b 2 ≡ true) (λ b. b < 2) bits (λ b e. ltb-true b 2 e) (each_passes (λ b. nat_lt b 2) bits h)

pub are_bits_each : (bits : List ℕ) → AreBits bits → are_bits bits ≡ true
are_bits_each bits h = all_pass (λ b. nat_lt b 2) bits (each_weaker (λ b. b < 2) (λ b. nat_lt b 2 ≡ true) bits (λ b l. lt-ltb b 2 l) h)

-- ---- the digits of a number in two lists

pub number_append : (xs ys : List ℕ) → number 2 (xs ++ ys) ≡ number 2 xs + 2 ^ length xs * number 2 ys
number_append [] ys = let e = ap (λ k. k * number 2 ys) (pow-zero 2) in omega (arith, e)
number_append (x ∷ xs) ys =
    let rest = number_append xs ys in
    let n = number 2 ys in
    let turned : 2 ^ length xs * 2 * n ≡ 2 * (2 ^ length xs * n) = grind arith in
    let power : 2 ^ suc (length xs) * n ≡ 2 * (2 ^ length xs * n) = ap (λ k. k * n) (pow-suc 2 (length xs)) ∙ turned in
    omega (arith, rest, power)

halved : (a n : ℕ) → n / 2 / 2 ^ a ≡ n / 2 ^ suc a
halved a n =
    let turned : 2 * 2 ^ a ≡ 2 ^ a * 2 = grind arith in
    div-div-eq-div-mul n 2 (2 ^ a) ∙ ap (λ k. n / k) (turned ∙ sym (pow-suc 2 a))

pub digits_append : (a b n : ℕ) → digits 2 (a + b) n ≡ digits 2 a n ++ digits 2 b (n / 2 ^ a)
digits_append zero b n =
    let e : 0 + b ≡ b = omega arith in
    ap (λ k. digits 2 k n) e ∙ sym (ap (digits 2 b) (ap (λ k. n / k) (pow-zero 2) ∙ div-one n))
digits_append (suc a) b n =
    let e : suc a + b ≡ suc (a + b) = omega arith in
    ap (λ k. digits 2 k n) e ∙ ap (λ ds. n % 2 ∷ ds) (digits_append a b (n / 2) ∙ ap (λ k. digits 2 a (n / 2) ++ digits 2 b k) (halved a n))

pub zero_digits : (k : ℕ) → digits 2 k 0 ≡ replicate k 0
zero_digits zero = refl
zero_digits (suc k) = ap (λ ds. 0 ∷ ds) (zero_digits k)

low_digit : (d m : ℕ) → d < 2 → (d + 2 * m) % 2 ≡ d
low_digit d m h = let turned : d + 2 * m ≡ m * 2 + d = omega arith in ap (λ n. n % 2) turned ∙ mod-mul-add m 2 d h

high_digits : (d m : ℕ) → d < 2 → (d + 2 * m) / 2 ≡ m
high_digits d m h = let turned : d + 2 * m ≡ m * 2 + d = omega arith in ap (λ n. n / 2) turned ∙ div-mul-add m 2 d h

-- so many digits of the number of some digits: zeros after them
pub digits_fill : (k : ℕ) (ds : List ℕ) → AreBits ds → digits 2 k (number 2 ds) ≡ take k ds ++ replicate (k - length ds) 0
digits_fill zero ds h = let e : 0 - length ds ≡ 0 = omega arith in sym (ap (λ m. replicate m 0) e)
digits_fill (suc k) [] h = let e : suc k ≡ suc k - 0 = omega arith in zero_digits (suc k) ∙ ap (λ m. replicate m 0) e
digits_fill (suc k) (d ∷ ds) h =
    let m = number 2 ds in
    let e : suc k - suc (length ds) ≡ k - length ds = omega arith in
    ap (λ n. n ∷ digits 2 k ((d + 2 * m) / 2)) (low_digit d m h.0)
    ∙ (ap (λ n. d ∷ digits 2 k n) (high_digits d m h.0)
    ∙ (ap (λ ns. d ∷ ns) (digits_fill k ds h.1) ∙ ap (λ n. d ∷ (take k ds ++ replicate n 0)) (sym e)))

-- the number without its lowest digits
pub number_drop : (n : ℕ) (ds : List ℕ) → AreBits ds → number 2 ds / 2 ^ n ≡ number 2 (drop n ds)
number_drop zero ds h = ap (λ k. number 2 ds / k) (pow-zero 2) ∙ div-one (number 2 ds)
number_drop (suc n) [] h = zero-div (2 ^ suc n)
number_drop (suc n) (d ∷ ds) h = sym (halved n (d + 2 * number 2 ds)) ∙ (ap (λ k. k / 2 ^ n) (high_digits d (number 2 ds) h.0) ∙ number_drop n ds h.1)

-- ---- bytes

pub same_bits : (count n : ℕ) → digits 2 count (n % 2 ^ count) ≡ digits 2 count n
same_bits count n =
    let ds = digits 2 count n in
    ap (digits 2 count) (sym (number_digits 2 count n (omega arith))) ∙ (ap (λ k. digits 2 k (number 2 ds)) (sym (length-digits 2 count n)) ∙ digits_number 2 ds (digits_below 2 count n (omega arith)))

pub length-bits_of : (bytes : List ℕ) → length (bits_of bytes) ≡ 8 * length bytes
length-bits_of [] = refl
length-bits_of (b ∷ bytes) =
    let rest = length-bits_of bytes in
    length-append (digits 2 8 b) (bits_of bytes) ∙ omega (arith, rest, length-digits 2 8 b)

pub bits_of_bits : (bytes : List ℕ) → AreBits (bits_of bytes)
bits_of_bits bytes = each-flat_map (λ b. b < 2) (digits 2 8) bytes (λ b. digits_below 2 8 b (omega arith))

pub bits_drop : (n : ℕ) (bits : List ℕ) → are_bits bits ≡ true → are_bits (drop n bits) ≡ true
bits_drop n bits h = are_bits_each (drop n bits) (each-drop (λ b. b < 2) n bits (each_bit bits h))

-- one digit of several
pub next_digit : (n rest : ℕ) → n < 8 → digits 2 (8 - n) rest ≡ rest % 2 ∷ digits 2 (8 - (n + 1)) (rest / 2)
next_digit n rest h = let e : 8 - n ≡ suc (8 - (n + 1)) = omega arith in ap (λ k. digits 2 k rest) e

pub bits_append : (xs ys : List ℕ) → bits_of (xs ++ ys) ≡ bits_of xs ++ bits_of ys
bits_append xs ys = flat_map-append (digits 2 8) xs ys

-- the number of the bits of bytes is theirs
pub bits_number : (bytes : List ℕ) → Each (λ b. b < 256) bytes → number 2 (bits_of bytes) ≡ number 256 bytes
bits_number [] h = refl
bits_number (b ∷ bytes) h =
    let rest = bits_number bytes h.1 in
    let one : number 2 (digits 2 8 b) ≡ b = number_digits 2 8 b (omega arith) ∙ mod-eq_of_lt h.0 in
    let all : 2 ^ length (digits 2 8 b) * number 2 (bits_of bytes) ≡ 256 * number 2 (bits_of bytes) = ap (λ k. 2 ^ k * number 2 (bits_of bytes)) (length-digits 2 8 b) in
    number_append (digits 2 8 b) (bits_of bytes) ∙ omega (arith, one, rest, all)

-- the first bytes, and the others
pub take_bits : (n : ℕ) (bytes : List ℕ) → n ≤ length bytes → take (8 * n) (bits_of bytes) ≡ bits_of (take n bytes)
take_bits n bytes enough =
    let front = take n bytes in
    let back = drop n bytes in
    let long : length (bits_of front) ≡ 8 * n = length-bits_of front ∙ ap (λ k. 8 * k) (length-take n bytes ∙ omega (arith, enough)) in
    ap (λ ns. take (8 * n) (bits_of ns)) (sym (take-append-drop n bytes)) ∙ (ap (take (8 * n)) (bits_append front back) ∙ take_at (bits_of front) (bits_of back) (8 * n) long)

pub drop_bits : (n : ℕ) (bytes : List ℕ) → n ≤ length bytes → drop (8 * n) (bits_of bytes) ≡ bits_of (drop n bytes)
drop_bits n bytes enough =
    let front = take n bytes in
    let back = drop n bytes in
    let long : length (bits_of front) ≡ 8 * n = length-bits_of front ∙ ap (λ k. 8 * k) (length-take n bytes ∙ omega (arith, enough)) in
    ap (λ ns. drop (8 * n) (bits_of ns)) (sym (take-append-drop n bytes)) ∙ (ap (drop (8 * n)) (bits_append front back) ∙ drop_at (bits_of front) (bits_of back) (8 * n) long)

-- the bits of the bytes of a number are its own
pub bits_of_digits : (n x : ℕ) → digits 2 (8 * n) x ≡ bits_of (digits 256 n x)
bits_of_digits zero x = refl
bits_of_digits (suc n) x =
    let e : 8 * suc n ≡ 8 + 8 * n = omega arith in
    ap (λ k. digits 2 k x) e
    ∙ (digits_append 8 (8 * n) x
    ∙ (ap (λ ds. ds ++ digits 2 (8 * n) (x / 256)) (sym (same_bits 8 x)) ∙ ap (λ ds. digits 2 8 (x % 256) ++ ds) (bits_of_digits n (x / 256))))

-- ---- packing

byte_at : (bytes : List ℕ) (i : ℕ) → Each (λ b. b < 256) bytes → i < length bytes → get_or bytes i 0 ≡ number 2 (take 8 (drop (8 * i) (bits_of bytes)))
byte_at bytes i h below =
    let rest = drop i bytes in
    let is : rest ≡ get_or bytes i 0 ∷ drop (suc i) bytes = drop-cons bytes i 0 below in
    let one : take 1 rest ≡ get_or bytes i 0 ∷ [] = ap (take 1) is in
    let some : 1 ≤ length rest = omega (arith, below, length-drop i bytes) in
    let small = each-take (λ b. b < 256) 1 rest (each-drop (λ b. b < 256) i bytes h) in
    let value : number 256 (get_or bytes i 0 ∷ []) ≡ get_or bytes i 0 = omega arith in
    sym (ap (λ ns. number 2 (take 8 ns)) (drop_bits i bytes (omega (arith, below))) ∙ (ap (number 2) (take_bits 1 rest some) ∙ (bits_number (take 1 rest) small ∙ (ap (number 256) one ∙ value))))

-- bytes are packed from their bits
pub packed_bits : (bytes : List ℕ) → Each (λ b. b < 256) bytes → packed (bits_of bytes) ≡ bytes
packed_bits bytes h =
    let bits = bits_of bytes in
    let byte = λ (n : ℕ). number 2 (take 8 (drop (8 * n) bits)) in
    let count : (length bits + 7) / 8 ≡ length bytes = ap (λ n. (n + 7) / 8) (length-bits_of bytes) ∙ omega arith in
    ap (λ n. map byte (range_with_len 0 n)) count ∙ sym (fill_by_all byte bytes (length bytes) 0 refl (λ i below. byte_at bytes i h below))
