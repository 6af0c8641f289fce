-- What `packbits` keeps of the bits of an element: it is an element of the type, of which all is kept.
use Rattle.std.proofs.Common.{◌≡◌, ℕ, suc, ◌+◌, ◌-◌, ◌*◌, ◌/◌, ◌%◌, ◌^◌, ◌<◌, ◌≤◌, List, [], ◌∷◌, length, ap, ◌∙◌, sym, refl, arith, ◌⊎◌, inl, inr, Bool, true, false, if◌then◌else◌, mod-eq_of_lt, pow-add, pow_mono, pow_pos, pow-suc}
use Rattle.std.specs.Prelude.{nat_lt}
use Rattle.std.proofs.lemmas.Bool.{ltb-true, ltb-false, cases_lt}
use Rattle.std.proofs.lemmas.Nat.{div-mul-add, mod-mul-add, mod_below}
use Rattle.std.proofs.Math.Nat.{div-mul-le_self, mod-le, mul-le-mul_right}
use native.Mathlib.Nat.{pow-zero}
use Rattle.zarr_codecs_meaning.specs.Numbers.{digits, number}
use Rattle.zarr_codecs_meaning.specs.Types.{Sign, signed, unsigned, extended}
use Rattle.zarr_codecs_meaning.proofs.Lists.{Each}
use Rattle.zarr_codecs_meaning.proofs.Values.{length-digits}
use Rattle.zarr_codecs_meaning.proofs.Digits.{number_digits, digits_number, digits_below}
use Rattle.zarr_codecs_meaning.proofs.Words.{bytes_power}

-- ---- numbers

-- a power of 256 above a power of two is a multiple of it
multiple_of : (bits count : ℕ) → 2 ^ bits < 256 ^ count → (q : ℕ) × (256 ^ count ≡ suc q * 2 ^ bits)
multiple_of bits count h =
    let power = bytes_power count in
    elim (cases_lt bits (8 * count)) [
      | inl less ↦
          let k = 8 * count - bits in
          let split : k + bits ≡ 8 * count = omega arith in
          let q = 2 ^ k - 1 in
          let some = pow_pos k in
          let whole : suc q ≡ 2 ^ k = omega (arith, some) in
          (q, power ∙ (ap (λ n. 2 ^ n) (sym split) ∙ (pow-add 2 k bits ∙ ap (λ n. n * 2 ^ bits) (sym whole))))
      | inr more ↦ let larger : 2 ^ (8 * count) ≤ 2 ^ bits = pow_mono more in absurd (omega (arith, larger, power, h))
    ]

-- the bits between others: below them nothing, above them a multiple of their end
bits_between : (low size b q : ℕ) → 0 < low → b < size → (b * low + q * (size * low)) / low % size ≡ b
bits_between low size b q some h =
    let turned : b * low + q * (size * low) ≡ (q * size + b) * low + 0 = grind arith in
    ap (λ n. n / low % size) turned ∙ (ap (λ n. n % size) (div-mul-add (q * size + b) low 0 some) ∙ mod-mul-add q size b h)

-- a number with its sign copied upwards, where that many bytes are more than its bits
wrapped : (m end bytes : ℕ) → m < end → m < bytes → (end < bytes → (q : ℕ) × (bytes ≡ suc q * end)) → (q : ℕ) × ((m + (bytes - end)) % bytes ≡ m + q * end)
wrapped m end bytes one two law = elim (cases_lt end bytes) [
  | inl less ↦
      let k = law less in
      let q = k.0 in
      let is : suc q * end ≡ end + q * end = grind arith in
      let e = k.1 in
      (q, mod-eq_of_lt (omega (arith, one, less)) ∙ omega (arith, is, e))
  | inr more ↦ let nothing : bytes - end ≡ 0 = omega (arith, more) in (0, ap (λ n. (m + n) % bytes) nothing ∙ (mod-eq_of_lt (omega (arith, two)) ∙ omega arith))
]

sign_step : (t : Bool) (m end bytes : ℕ) → m < end → m < bytes → (end < bytes → (q : ℕ) × (bytes ≡ suc q * end)) → (q : ℕ) × ((if t then m else m + (bytes - end)) % bytes ≡ m + q * end)
sign_step true m end bytes one two law = (0, mod-eq_of_lt two ∙ omega arith)
sign_step false m end bytes one two law = wrapped m end bytes one two law

-- the bytes of an extended number are the number and a multiple of its end
extended_number : (sign : Sign) (bits count m : ℕ) → m < 2 ^ bits → m < 256 ^ count → (q : ℕ) × (number 256 (digits 256 count (extended sign bits count m)) ≡ m + q * 2 ^ bits)
extended_number unsigned bits count m one two = (0, number_digits 256 count m (omega arith) ∙ (mod-eq_of_lt two ∙ omega arith))
extended_number signed bits count m one two =
    let k = sign_step (nat_lt m (2 ^ (bits - 1))) m (2 ^ bits) (256 ^ count) one two (multiple_of bits count) in
    (k.0, number_digits 256 count (extended signed bits count m) (omega arith) ∙ k.1)

same_bits : (count n : ℕ) → digits 2 count (n % 2 ^ count) ≡ digits 2 count n
same_bits count n =
    let ds = digits 2 count n in
    ap (digits 2 count) (sym (number_digits 2 count n (omega arith))) ∙ (ap (λ k. digits 2 k (number 2 ds)) (sym (length-digits 2 count n)) ∙ digits_number 2 ds (digits_below 2 count n (omega arith)))

-- the same of a number that is the bits and a multiple of their end
field_read : (first kept n m q made : ℕ) → m ≡ n / 2 ^ first % 2 ^ kept → made ≡ m * 2 ^ first + q * (2 ^ kept * 2 ^ first) → digits 2 kept (made / 2 ^ first) ≡ digits 2 kept (n / 2 ^ first)
field_read first kept n m q made is e =
    let below : m < 2 ^ kept = let b = mod_below (n / 2 ^ first) (2 ^ kept) (pow_pos kept) in omega (arith, b, is) in
    let between : made / 2 ^ first % 2 ^ kept ≡ m = ap (λ k. k / 2 ^ first % 2 ^ kept) e ∙ bits_between (2 ^ first) (2 ^ kept) m q (pow_pos first) below in
    sym (same_bits kept (made / 2 ^ first)) ∙ (ap (digits 2 kept) (between ∙ is) ∙ same_bits kept (n / 2 ^ first))

-- kept bits, at their place, are less than their end, and no more than the number
field_small : (low size n : ℕ) → 0 < low → 0 < size → (n / low % size * low < size * low) × (n / low % size * low ≤ n)
field_small low size n some more =
    let b = n / low % size in
    let top : suc b * low ≤ size * low = mul-le-mul_right low (mod_below (n / low) size more) in
    let next : suc b * low ≡ low + b * low = grind arith in
    let within : b * low ≤ n / low * low = mul-le-mul_right low (mod-le (n / low) size) in
    (omega (arith, top, next, some), omega (arith, within, div-mul-le_self n low))

-- the kept bits of what was made of kept bits are those
pub field_again : (sign : Sign) (first kept bits count n : ℕ) → bits ≡ first + kept → n < 256 ^ count
    → digits 2 kept (number 256 (digits 256 count (extended sign bits count (number 2 (digits 2 kept (n / 2 ^ first)) * 2 ^ first))) / 2 ^ first) ≡ digits 2 kept (n / 2 ^ first)
field_again sign first kept bits count n is small =
    let m = number 2 (digits 2 kept (n / 2 ^ first)) in
    let read : m ≡ n / 2 ^ first % 2 ^ kept = number_digits 2 kept (n / 2 ^ first) (omega arith) in
    let scaled : m * 2 ^ first ≡ n / 2 ^ first % 2 ^ kept * 2 ^ first = ap (λ k. k * 2 ^ first) read in
    let low = field_small (2 ^ first) (2 ^ kept) n (pow_pos first) (pow_pos kept) in
    let end : 2 ^ bits ≡ 2 ^ kept * 2 ^ first = ap (λ k. 2 ^ k) is ∙ (pow-add 2 first kept ∙ grind arith) in
    let k = extended_number sign bits count (m * 2 ^ first) (omega (arith, low.0, scaled, end)) (omega (arith, low.1, scaled, small)) in
    field_read first kept n m k.0 (number 256 (digits 256 count (extended sign bits count (m * 2 ^ first)))) read (k.1 ∙ ap (λ j. m * 2 ^ first + k.0 * j) end)

-- ---- the sign

extended_is : (t : Bool) (v r half bytes end : ℕ) → nat_lt r half ≡ t → (r < half → v ≡ r) → (half ≤ r → v ≡ r + (bytes - end)) → v ≡ (if t then r else r + (bytes - end))
extended_is true v r half bytes end e one two = one (ltb-true r half e)
extended_is false v r half bytes end e one two = two (ltb-false r half e)

sign_cases : (t : Bool) (m half bytes end : ℕ) → nat_lt m half ≡ t → ((m < half) × ((if t then m else m + (bytes - end)) ≡ m)) ⊎ ((half ≤ m) × ((if t then m else m + (bytes - end)) ≡ m + (bytes - end)))
sign_cases true m half bytes end e = inl (ltb-true m half e, refl)
sign_cases false m half bytes end e = inr (ltb-false m half e, refl)

-- a number whose sign was copied from a bit is one whose sign is copied from a higher bit
sign_copied : (m made low_half low_end half end bytes : ℕ) → low_end ≡ low_half + low_half → end ≡ half + half → low_half ≤ half → m < low_end → 0 < bytes → (end < bytes → (q : ℕ) × (bytes ≡ suc q * end))
    → ((m < low_half) × (made ≡ m)) ⊎ ((low_half ≤ m) × (made ≡ m + (bytes - low_end))) → made % bytes ≡ (if nat_lt (made % bytes % end) half then made % bytes % end else made % bytes % end + (bytes - end))
sign_copied m made low_half low_end half end bytes l e less small some law is =
    let v = made % bytes in
    elim (cases_lt end bytes) as (λ _. v ≡ (if nat_lt (v % end) half then v % end else v % end + (bytes - end))) [
      | inl wide ↦ elim is as (λ _. v ≡ (if nat_lt (v % end) half then v % end else v % end + (bytes - end))) [
        | inl k ↦
            let same = k.1 in
            let low = k.0 in
            let here : v ≡ made = mod-eq_of_lt (omega (arith, same, low, less, e, wide)) in
            let rest : v % end ≡ v = mod-eq_of_lt (omega (arith, here, same, low, less, e)) in
            extended_is (nat_lt (v % end) half) v (v % end) half bytes end refl (λ h. sym rest) (λ h. absurd (omega (arith, h, rest, here, same, low, less)))
        | inr k ↦
            let same = k.1 in
            let high = k.0 in
            let here : v ≡ made = mod-eq_of_lt (omega (arith, same, small, high, wide, e, l, less)) in
            let q = law wide in
            let whole = q.1 in
            let r = (end - low_end) + m in
            let split : suc q.0 * end ≡ end + q.0 * end = grind arith in
            let below : r < end = omega (arith, small, e, l, less) in
            let rest : v % end ≡ r = ap (λ n. n % end) {y = q.0 * end + r} (omega (arith, here, same, whole, split, small, e, l, less)) ∙ mod-mul-add q.0 end r below in
            extended_is (nat_lt (v % end) half) v (v % end) half bytes end refl (λ h. absurd (omega (arith, h, rest, high, e, l, less))) (λ h. omega (arith, here, same, rest, e, l, less, wide, small))
      ]
      | inr narrow ↦
          let low : v < bytes = mod_below made bytes some in
          let rest : v % end ≡ v = mod-eq_of_lt (omega (arith, low, narrow)) in
          extended_is (nat_lt (v % end) half) v (v % end) half bytes end refl (λ h. sym rest) (λ h. omega (arith, rest, narrow))
    ]

halves : (bits : ℕ) → 0 < bits → 2 ^ bits ≡ 2 ^ (bits - 1) + 2 ^ (bits - 1)
halves bits some =
    let one : bits ≡ suc (bits - 1) = omega (arith, some) in
    ap (λ n. 2 ^ n) one ∙ (pow-suc 2 (bits - 1) ∙ omega arith)

-- a number of fewer bits whose sign was copied is as the component's rule says
pub component_kept : (sign : Sign) (width bits count m : ℕ) → m < 2 ^ bits → 0 < bits → bits ≤ width
    → number 256 (digits 256 count (extended sign bits count m)) ≡ extended sign width count (number 256 (digits 256 count (extended sign bits count m)) % 2 ^ width)
component_kept unsigned width bits count m small some within =
    let read = number_digits 256 count m (omega arith) in
    let more : 2 ^ bits ≤ 2 ^ width = pow_mono within in
    let low = mod-le m (256 ^ count) in
    sym (mod-eq_of_lt (omega (arith, read, more, low, small)))
component_kept signed width bits count m small some within =
    let made = extended signed bits count m in
    let bytes = 256 ^ count in
    let read : number 256 (digits 256 count made) ≡ made % bytes = number_digits 256 count made (omega arith) in
    let half : 2 ^ (bits - 1) ≤ 2 ^ (width - 1) = pow_mono (omega (arith, within)) in
    let positive : 0 < bytes = let p = pow_pos (8 * count) in omega (arith, p, bytes_power count) in
    let is = sign_copied m made (2 ^ (bits - 1)) (2 ^ bits) (2 ^ (width - 1)) (2 ^ width) bytes (halves bits some) (halves width (omega (arith, some, within))) half small positive (multiple_of width count)
    (sign_cases (nat_lt m (2 ^ (bits - 1))) m (2 ^ (bits - 1)) bytes (2 ^ bits) refl) in
    read ∙ (is ∙ ap (λ v. extended signed width count (v % 2 ^ width)) (sym read))

-- digits are less than a power of their base
pub number_below : (base : ℕ) (ds : List ℕ) → Each (λ d. d < base) ds → number base ds < base ^ length ds
number_below base [] h = omega (arith, pow-zero base)
number_below base (d ∷ ds) h =
    let rest = number_below base ds h.1 in
    let more : suc (number base ds) * base ≤ base ^ length ds * base = mul-le-mul_right base rest in
    let turned : suc (number base ds) * base ≡ base + base * number base ds = grind arith in
    let first = h.0 in
    omega (arith, more, turned, first, pow-suc base (length ds))
