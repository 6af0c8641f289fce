-- Numbers and their digits, bits and bytes.
use Rattle.std.proofs.Common.{◌≡◌, ℕ, zero, suc, ◌+◌, ◌-◌, ◌*◌, ◌/◌, ◌%◌, ◌^◌, ◌<◌, ◌≤◌, List, [], ◌∷◌, ◌++◌, length, map, take, drop, replicate, ap, ◌∙◌, sym, refl, arith, inl, inr, true, length-take, append_assoc, append-nil, take-append-drop, pow-suc, mul-pos}
use Rattle.std.specs.List.{flat_map, range_with_len}
use Rattle.std.specs.Prelude.{nat_lt}
use Rattle.std.proofs.lemmas.Nat.{div-mul-add, mod-mul-add, mod_below}
use Rattle.std.proofs.lemmas.Bool.{ltb-true, cases_lt}
use Rattle.std.proofs.lemmas.List.{drop_all, take_all}
use Rattle.std.proofs.Math.Seq.{drop-drop}
use lib.Arith.{mod-mul}
use native.Mathlib.Nat.{pow-zero}
use Rattle.zarr_codecs_meaning.specs.Numbers.{digits, number}
use Rattle.zarr_codecs_meaning.specs.Types.{are_bytes}
use Rattle.zarr_codecs_meaning.specs.Encoding.{packed}
use Rattle.zarr_codecs_meaning.proofs.Lists.{Each, each_passes, each_weaker, zero_list}

pow_positive : (base count : ℕ) → 0 < base → 0 < base ^ count
pow_positive base zero h = omega (arith, pow-zero base)
pow_positive base (suc count) h = let rest = pow_positive base count h in let both = mul-pos rest h in omega (arith, pow-suc base count, both)

pub number_digits : (base count n : ℕ) → 0 < base → number base (digits base count n) ≡ n % base ^ count
number_digits base zero n h =
    let one = pow-zero base in
    let below : n % 1 < 1 = mod_below n 1 (omega arith) in
    sym (ap (λ m. n % m) one ∙ omega (arith, below))
number_digits base (suc count) n h =
    let rest = number_digits base count (n / base) h in
    let two = mod-mul n {m = base ^ count} {c = base} (pow_positive base count h) h in
    let power = ap (λ m. n % m) (pow-suc base count) in
    let turned : base * (n / base % base ^ count) ≡ (n / base % base ^ count) * base = grind arith in
    ap (λ m. n % base + base * m) rest ∙ (omega (arith, turned) ∙ (sym two ∙ sym power))

pub digits_number : (base : ℕ) (ds : List ℕ) → Each (λ d. d < base) ds → digits base (length ds) (number base ds) ≡ ds
digits_number base [] h = refl
digits_number base (d ∷ ds) h =
    let m = number base ds in
    let turned : d + base * m ≡ m * base + d = grind arith in
    let low = ap (λ n. n % base) turned ∙ mod-mul-add m base d h.0 in
    let high = ap (λ n. n / base) turned ∙ div-mul-add m base d h.0 in
    ap (λ n. n ∷ digits base (length ds) ((d + base * m) / base)) low ∙ (ap (λ n. d ∷ digits base (length ds) n) high ∙ ap (λ ns. d ∷ ns) (digits_number base ds h.1))

pub digits_below : (base count n : ℕ) → 0 < base → Each (λ d. d < base) (digits base count n)
digits_below base zero n h = tt
digits_below base (suc count) n h = (mod_below n base h, digits_below base count (n / base) h)

pub bytes_below : (element : List ℕ) → are_bytes element ≡ true → Each (λ b. b < 256) element
bytes_below element h = each_weaker (λ b. nat_lt b 256 ≡ true) (λ b. b < 256) element (λ b e. ltb-true b 256 e) (each_passes (λ b. nat_lt b 256) element h)

pub each-take : {X : Type 0} (P : X → Type 0) (n : ℕ) (xs : List X) → Each P xs → Each P (take n xs)
each-take P zero xs h = tt
each-take P (suc n) [] h = tt
each-take P (suc n) (x ∷ xs) h = (h.0, each-take P n xs h.1)

pub each-drop : {X : Type 0} (P : X → Type 0) (n : ℕ) (xs : List X) → Each P xs → Each P (drop n xs)
each-drop P zero xs h = h
each-drop P (suc n) [] h = tt
each-drop P (suc n) (x ∷ xs) h = each-drop P n xs h.1

zero_bits : (k : ℕ) → digits 2 k 0 ≡ zero_list k
zero_bits zero = refl
zero_bits (suc k) = ap (λ ns. 0 ∷ ns) (zero_bits k)

-- bits that are fewer than asked for, and zeros
filled_bits : (xs : List ℕ) (k : ℕ) → Each (λ b. b < 2) xs → digits 2 (length xs + k) (number 2 xs) ≡ xs ++ replicate k 0
filled_bits [] k h = let e : 0 + k ≡ k = omega arith in ap (λ n. digits 2 n 0) e ∙ zero_bits k
filled_bits (x ∷ xs) k h =
    let m = number 2 xs in
    let e : suc (length xs) + k ≡ suc (length xs + k) = omega arith in
    let turned : x + 2 * m ≡ m * 2 + x = omega arith in
    let low = ap (λ n. n % 2) turned ∙ mod-mul-add m 2 x h.0 in
    let high = ap (λ n. n / 2) turned ∙ div-mul-add m 2 x h.0 in
    ap (λ n. digits 2 n (x + 2 * m)) e ∙ (ap (λ n. n ∷ digits 2 (length xs + k) ((x + 2 * m) / 2)) low ∙ (ap (λ n. x ∷ digits 2 (length xs + k) n) high ∙ ap (λ ns. x ∷ ns) (filled_bits xs k h.1)))

replicate_more : (m n : ℕ) → zero_list m ++ zero_list n ≡ zero_list (m + n)
replicate_more zero n = let e : n ≡ 0 + n = omega arith in ap zero_list e
replicate_more (suc m) n = let e : suc (m + n) ≡ suc m + n = omega arith in ap (λ (ns : List ℕ). 0 ∷ ns) (replicate_more m n) ∙ ap zero_list e

-- one byte's bits, before the others
byte_bits : (xs : List ℕ) (others : List ℕ) (more : ℕ) → Each (λ b. b < 2) xs → others ≡ drop 8 xs ++ replicate more 0 → digits 2 8 (number 2 (take 8 xs)) ++ others ≡ xs ++ replicate ((8 - length xs) + more) 0
byte_bits xs others more h is =
    let front = take 8 xs in
    let k = 8 - length front in
    let long : length front + k ≡ 8 = omega (arith, length-take 8 xs) in
    let same : k ≡ 8 - length xs = omega (arith, length-take 8 xs) in
    let read : digits 2 8 (number 2 front) ≡ front ++ replicate k 0 = ap (λ n. digits 2 n (number 2 front)) (sym long) ∙ filled_bits front k (each-take (λ b. b < 2) 8 xs h) in
    ap (λ ns. ns ++ others) read ∙ (ap (λ ns. (front ++ replicate k 0) ++ ns) is ∙ elim (cases_lt (length xs) 8) [
      | inl few ↦
          let none : drop 8 xs ≡ [] = drop_all 8 xs (omega arith) in
          let all : front ≡ xs = take_all 8 xs (omega arith) in
          append_assoc front (replicate k 0) (drop 8 xs ++ replicate more 0)
          ∙ (ap (λ ns. front ++ (replicate k 0 ++ (ns ++ replicate more 0))) none
          ∙ (ap (λ ns. front ++ ns) (replicate_more k more) ∙ (ap (λ ns. ns ++ replicate (k + more) 0) all ∙ ap (λ n. xs ++ replicate (n + more) 0) same)))
      | inr many ↦
          let nothing : k ≡ 0 = omega (arith, same) in
          ap (λ n. (front ++ replicate n 0) ++ (drop 8 xs ++ replicate more 0)) nothing
          ∙ (ap (λ ns. ns ++ (drop 8 xs ++ replicate more 0)) (append-nil front)
          ∙ (sym (append_assoc front (drop 8 xs) (replicate more 0)) ∙ (ap (λ ns. ns ++ replicate more 0) (take-append-drop 8 xs) ∙ ap (λ n. xs ++ replicate n 0) (omega (arith, same, nothing)))))
    ])

abbrev pub byte_of : List ℕ → ℕ → ℕ
byte_of bits n = number 2 (take 8 (drop (8 * n) bits))

unpacked_from : (bits : List ℕ) (m k : ℕ) → Each (λ b. b < 2) bits → length bits ≤ 8 * (k + m)
    → (more : ℕ) × (flat_map (digits 2 8) (map (byte_of bits) (range_with_len k m)) ≡ drop (8 * k) bits ++ replicate more 0)
unpacked_from bits zero k h few = (0, sym (ap (λ ns. ns ++ []) (drop_all (8 * k) bits (omega arith))))
unpacked_from bits (suc m) k h few =
    let rest = unpacked_from bits m (k + 1) h (omega arith) in
    let xs = drop (8 * k) bits in
    let next : 8 * (k + 1) ≡ 8 * k + 8 = omega arith in
    let codec : drop (8 * (k + 1)) bits ≡ drop 8 xs = ap (λ n. drop n bits) next ∙ sym (drop-drop 8 (8 * k) bits) in
    ((8 - length xs) + rest.0, byte_bits xs (flat_map (digits 2 8) (map (byte_of bits) (range_with_len (k + 1) m))) rest.0 (each-drop (λ b. b < 2) (8 * k) bits h) (rest.1 ∙ ap (λ ns. ns ++ replicate rest.0 0) codec))

-- what is unpacked are the bits that were packed, and zeros
pub unpacked_packed : (bits : List ℕ) → Each (λ b. b < 2) bits → (more : ℕ) × (flat_map (digits 2 8) (packed bits) ≡ bits ++ replicate more 0)
unpacked_packed bits h =
    let n = (length bits + 7) / 8 in
    let enough : length bits ≤ 8 * (0 + n) = omega arith in
    unpacked_from bits n 0 h enough
