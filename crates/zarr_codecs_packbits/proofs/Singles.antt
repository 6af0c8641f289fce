-- Elements that are one component of one byte.
use Rattle.std.proofs.Common.{◌≡◌, ℕ, zero, suc, ◌+◌, ◌-◌, ◌*◌, ◌/◌, ◌%◌, ◌^◌, ◌<◌, ◌≤◌, min, List, [], ◌∷◌, ◌++◌, length, take, drop, Option, ap, ap₂, ◌∙◌, sym, refl, arith, inl, inr, append_assoc, length-take, length-drop, take-append-drop}
use Rattle.std.specs.List.{flat_map, range_with_len}
use Rattle.std.proofs.lemmas.Bool.{cases_lt}
use Rattle.std.proofs.lemmas.List.{append-nil, drop-drop, take-append-le, drop-append-le, take_at, drop_at}
use Rattle.std.proofs.Math.Nat.{div-one, mul-le-mul_right}
use native.Mathlib.Nat.{pow-zero}
use Rattle.zarr_codecs_meaning.specs.Numbers.{digits, number}
use Rattle.zarr_codecs_meaning.specs.Types.{Component, Cell, of_bytes, cell_bytes, bytes_in, extended}
use Rattle.zarr_codecs_meaning.specs.Encoding.{element_bits, element_of_bits}
use Rattle.zarr_codecs_meaning.specs.Chains.{Padding}
use Rattle.zarr_codecs_meaning.specs.Decoding.{without_padding}
use Rattle.zarr_codecs_meaning.specs.Fits.{bits_in, kept_bits, last_kept, packed_size}
use Rattle.zarr_codecs_meaning.specs.Payloads.{fixed_cells}
use Rattle.zarr_codecs_meaning.proofs.Digits.{number_digits, digits_number}
use Rattle.zarr_codecs_meaning.proofs.Values.{length-digits}
use Rattle.zarr_codecs_arrays.proofs.FixedCells.{fixed_cells-cons, fixed_cells-nil}
use Rattle.zarr_codecs_types.specs.Views.{sign_of}
use Rattle.zarr_codecs_packbits.specs.declared.kept.KeptBits.{KeptBits}
use Rattle.zarr_codecs_packbits.specs.Packing.{AreSingle, bits_from, byte_restored, bytes_of, bytes_restored, element_in, kept_of}
use Rattle.zarr_codecs_packbits.specs.Turning.{bits_of}
use Rattle.zarr_codecs_packbits.proofs.PackedCells.{enough_to_restore}
use Rattle.zarr_codecs_packbits.proofs.Turns.{restore_read}
use Rattle.zarr_codecs_packbits.proofs.BitLists.{bits_append, bits_of_bits, digits_append, drop_bits, length-bits_of}

-- ---- what is kept

one_kept : (first : ℕ) (last : Option ℕ) (c : Component) (b : ℕ) → c.byte_count ≡ 1 → element_bits first last (c ∷ []) (b ∷ []) ≡ digits 2 (kept_bits first last c) (b / 2 ^ first)
one_kept first last c b one =
    let k = kept_bits first last c in
    let value : b + 256 * 0 ≡ b = omega arith in
    append-nil (digits 2 k (number 256 (take c.byte_count (b ∷ [])) / 2 ^ first)) ∙ (ap (λ w. digits 2 k (number 256 (take w (b ∷ [])) / 2 ^ first)) one ∙ ap (λ n. digits 2 k (n / 2 ^ first)) value)

kept_singly : (first : ℕ) (last : Option ℕ) (c : Component) (bytes : List ℕ) → c.byte_count ≡ 1
    → flat_map (λ cell. element_bits first last (c ∷ []) (cell_bytes cell)) (fixed_cells 1 bytes) ≡ bits_from first (kept_bits first last c) bytes
kept_singly first last c [] one = ap (flat_map (λ cell. element_bits first last (c ∷ []) (cell_bytes cell))) (fixed_cells-nil 1)
kept_singly first last c (b ∷ bytes) one =
    let f : Cell → List ℕ = λ cell. element_bits first last (c ∷ []) (cell_bytes cell) in
    let more : fixed_cells 1 (b ∷ bytes) ≡ of_bytes (b ∷ []) ∷ fixed_cells 1 bytes = fixed_cells-cons 1 (b ∷ []) bytes (omega arith) refl in
    ap (flat_map f) more ∙ ap₂ (λ xs ys. xs ++ ys) (one_kept first last c b one) (kept_singly first last c bytes one)

pub single_kept : (first : ℕ) (last : Option ℕ) (parts : List Component) (kept : KeptBits) (bytes : List ℕ) → AreSingle first last parts kept → bits_from kept.first kept.count bytes ≡ kept_of first last parts bytes
single_kept first last parts kept bytes s =
    let width : bytes_in parts ≡ 1 = ap bytes_in s.one ∙ omega (arith, s.byte) in
    let f : List Component → Cell → List ℕ = λ ps cell. element_bits first last ps (cell_bytes cell) in
    ap₂ (λ m n. bits_from m n bytes) s.from s.many
    ∙ sym (ap (λ w. flat_map (f parts) (fixed_cells w bytes)) width ∙ (ap (λ ps. flat_map (f ps) (fixed_cells 1 bytes)) s.one ∙ kept_singly first last s.part bytes s.byte))

-- ---- what is restored

-- so many elements, and more
restored_more : (kept : KeptBits) (n m : ℕ) (bits : List ℕ) → bytes_restored kept (n + m) bits ≡ bytes_restored kept n bits ++ bytes_restored kept m (drop (n * kept.count) bits)
restored_more kept zero m bits =
    let sum : 0 + m ≡ m = omega arith in
    let none : 0 * kept.count ≡ 0 = omega arith in
    ap (λ k. bytes_restored kept k bits) sum ∙ ap (λ k. bytes_restored kept m (drop k bits)) (sym none)
restored_more kept (suc n) m bits =
    let sum : suc n + m ≡ suc (n + m) = omega arith in
    let far : n * kept.count + kept.count ≡ suc n * kept.count = grind arith in
    let far_on : kept.count + n * kept.count ≡ suc n * kept.count = grind arith in
    let b = byte_restored kept (number 2 (take kept.count bits)) in
    let rest = drop kept.count bits in
    ap (λ k. bytes_restored kept k bits) sum
    ∙ (ap (λ ns. b ∷ ns) (restored_more kept n m rest)
    ∙ ap (λ ns. b ∷ (bytes_restored kept n rest ++ bytes_restored kept m ns)) (drop-drop (n * kept.count) kept.count bits ∙ ap (λ k. drop k bits) far_on))

-- only the first bits are read
restored_front : (kept : KeptBits) (n : ℕ) (xs ys : List ℕ) → n * kept.count ≤ length xs → bytes_restored kept n (xs ++ ys) ≡ bytes_restored kept n xs
restored_front kept zero xs ys h = refl
restored_front kept (suc n) xs ys h =
    let far : suc n * kept.count ≡ n * kept.count + kept.count = grind arith in
    let enough : kept.count ≤ length xs = omega (arith, h, far) in
    let left : n * kept.count ≤ length (drop kept.count xs) = omega (arith, h, far, length-drop kept.count xs) in
    ap₂ (λ ms ns. byte_restored kept (number 2 ms) ∷ bytes_restored kept n ns) (take-append-le kept.count xs ys enough) (drop-append-le kept.count xs ys enough)
    ∙ ap (λ ns. byte_restored kept (number 2 (take kept.count xs)) ∷ ns) (restored_front kept n (drop kept.count xs) ys left)

-- the first element of the bits of a number
next_restored : (kept : KeptBits) (n word : ℕ) → bytes_restored kept (suc n) (digits 2 (suc n * kept.count) word) ≡ byte_restored kept (word % 2 ^ kept.count) ∷ bytes_restored kept n (digits 2 (n * kept.count) (word / 2 ^ kept.count))
next_restored kept n word =
    let c = kept.count in
    let far : suc n * c ≡ c + n * c = grind arith in
    let front = digits 2 c word in
    let back = digits 2 (n * c) (word / 2 ^ c) in
    let long = length-digits 2 c word in
    ap (bytes_restored kept (suc n)) (ap (λ k. digits 2 k word) far ∙ digits_append c (n * c) word)
    ∙ (ap₂ (λ ms ns. byte_restored kept (number 2 ms) ∷ bytes_restored kept n ns) (take_at front back c long) (drop_at front back c long)
    ∙ ap (λ k. byte_restored kept k ∷ bytes_restored kept n back) (number_digits 2 c word (omega arith)))

pub push_more : (kept : KeptBits) (count n rest byte more scale : ℕ) (now next all : List ℕ) → n < count → scale ≡ 2 ^ kept.count → byte ≡ byte_restored kept (rest % scale) → more ≡ rest / scale → next ≡ now ++ byte ∷ []
    → now ++ bytes_restored kept (count - n) (digits 2 ((count - n) * kept.count) rest) ≡ all → next ++ bytes_restored kept (count - (n + 1)) (digits 2 ((count - (n + 1)) * kept.count) more) ≡ all
push_more kept count n rest byte more scale now next all less s b m e so_far =
    let c = kept.count in
    let k = count - (n + 1) in
    let one : count - n ≡ suc k = omega (arith, less) in
    let tail = bytes_restored kept k (digits 2 (k * c) (rest / 2 ^ c)) in
    let value : byte ≡ byte_restored kept (rest % 2 ^ c) = b ∙ ap (λ x. byte_restored kept (rest % x)) s in
    let others : more ≡ rest / 2 ^ c = m ∙ ap (λ x. rest / x) s in
    ap₂ (λ xs x. xs ++ bytes_restored kept k (digits 2 (k * c) x)) e others
    ∙ (append_assoc now (byte ∷ []) tail
    ∙ (ap (λ x. now ++ x ∷ tail) value
    ∙ (ap (λ xs. now ++ xs) (sym (ap (λ x. bytes_restored kept x (digits 2 (x * c) rest)) one ∙ next_restored kept k rest)) ∙ so_far)))

pub from_zero : (bytes : List ℕ) → bits_from 0 8 bytes ≡ bits_of bytes
from_zero [] = refl
from_zero (b ∷ bytes) = ap₂ (λ xs ys. xs ++ ys) (ap (digits 2 8) (ap (λ k. b / k) (pow-zero 2) ∙ div-one b)) (from_zero bytes)

-- the elements of a word
word_restored : (kept : KeptBits) (n word : ℕ) (front : List ℕ) → word ≡ number 2 (bits_of front) → n * kept.count ≤ length (bits_of front) → bytes_restored kept n (bits_of front) ≡ bytes_restored kept n (digits 2 (n * kept.count) word)
word_restored kept n word front is enough =
    let bits = bits_of front in
    let read = n * kept.count in
    let spare = length bits - read in
    let sum : length bits ≡ read + spare = omega (arith, enough) in
    let all : bits ≡ digits 2 read word ++ digits 2 spare (word / 2 ^ read) = sym (digits_number 2 bits (bits_of_bits front)) ∙ (ap (digits 2 (length bits)) (sym is) ∙ (ap (λ k. digits 2 k word) sum ∙ digits_append read spare word)) in
    let long : read ≤ length (digits 2 read word) = omega (arith, length-digits 2 read word) in
    ap (bytes_restored kept n) all ∙ restored_front kept n (digits 2 read word) (digits 2 spare (word / 2 ^ read)) long

-- how much of the bytes a word takes
pub record IsRound (kept : KeptBits) (left n f : ℕ) (rest : List ℕ) : Type 0 where
  pub many : n ≤ 8
  pub within : n ≤ left
  pub front : f ≤ length rest
  pub bits : n * kept.count ≤ 8 * f
  pub more : n < left → (n ≡ 8) × (f ≡ kept.count)

round_bits : (kept : KeptBits) (left n f : ℕ) (rest : List ℕ) → left * kept.count ≤ 8 * length rest → n ≡ min left 8 → f ≡ min (length rest) kept.count → n * kept.count ≤ 8 * f
round_bits kept left n f rest enough a b = elim (cases_lt (length rest) kept.count) [
  | inl short ↦ (let most = mul-le-mul_right {m = n} {n = left} kept.count (omega (arith, a)) in omega (arith, most, enough, b, short))
  | inr all ↦ (let most = mul-le-mul_right {m = n} {n = 8} kept.count (omega (arith, a)) in omega (arith, most, b, all))
]

pub round : (kept : KeptBits) (left n f : ℕ) (rest : List ℕ) → left * kept.count ≤ 8 * length rest → n ≡ min left 8 → f ≡ min (length rest) kept.count → IsRound kept left n f rest
round kept left n f rest enough a b =
    let others : n < left → (n ≡ 8) × (f ≡ kept.count) = λ less.
    let most = mul-le-mul_right {m = 8} {n = left} kept.count (omega (arith, a, less)) in
    (omega (arith, a, less), omega (arith, most, enough, b)) in
    record { many = omega (arith, a); within = omega (arith, a); front = omega (arith, b); bits = round_bits kept left n f rest enough a b; more = others }

-- what a word leaves
left_restored : (kept : KeptBits) (left n f : ℕ) (rest : List ℕ) → IsRound kept left n f rest → bytes_restored kept (left - n) (drop (n * kept.count) (bits_of rest)) ≡ bytes_restored kept (left - n) (bits_of (drop f rest))
left_restored kept left n f rest r = elim (cases_lt n left) [
  | inl less ↦ (let m = r.more less in
      let far : n * kept.count ≡ 8 * f = ap₂ (λ a b. a * b) m.0 (sym m.1) in
      ap (bytes_restored kept (left - n)) (ap (λ k. drop k (bits_of rest)) far ∙ drop_bits f rest r.front))
  | inr all ↦ (let none : left - n ≡ 0 = omega (arith, all) in
      ap (λ k. bytes_restored kept k (drop (n * kept.count) (bits_of rest))) none ∙ sym (ap (λ k. bytes_restored kept k (bits_of (drop f rest))) none))
]

pub round_more : (kept : KeptBits) (left n f word : ℕ) (rest front others now next all : List ℕ) → IsRound kept left n f rest → front ≡ take f rest → others ≡ drop f rest → word ≡ number 2 (bits_of front)
    → next ≡ now ++ bytes_restored kept n (digits 2 (n * kept.count) word) → now ++ bytes_restored kept left (bits_of rest) ≡ all → next ++ bytes_restored kept (left - n) (bits_of others) ≡ all
round_more kept left n f word rest front others now next all r front_is others_are w e so_far =
    let c = kept.count in
    let sum : left ≡ n + (left - n) = omega (arith, r.within) in
    let halves : bits_of rest ≡ bits_of front ++ bits_of others = ap bits_of (sym (take-append-drop f rest)) ∙ (bits_append (take f rest) (drop f rest) ∙ ap₂ (λ xs ys. bits_of xs ++ bits_of ys) (sym front_is) (sym others_are)) in
    let long : length front ≡ f = ap length front_is ∙ (length-take f rest ∙ omega (arith, r.front)) in
    let enough : n * c ≤ length (bits_of front) = omega (arith, r.bits, long, length-bits_of front) in
    let first : bytes_restored kept n (bits_of rest) ≡ bytes_restored kept n (digits 2 (n * c) word) = ap (bytes_restored kept n) halves ∙ (restored_front kept n (bits_of front) (bits_of others) enough ∙ word_restored kept n word front w enough) in
    let second : bytes_restored kept (left - n) (drop (n * c) (bits_of rest)) ≡ bytes_restored kept (left - n) (bits_of others) = left_restored kept left n f rest r ∙ ap (λ ys. bytes_restored kept (left - n) (bits_of ys)) (sym others_are) in
    let both : bytes_restored kept left (bits_of rest) ≡ bytes_restored kept n (digits 2 (n * c) word) ++ bytes_restored kept (left - n) (bits_of others) = ap (λ k. bytes_restored kept k (bits_of rest)) sum ∙ (restored_more kept n (left - n) (bits_of rest) ∙ ap₂ (λ xs ys. xs ++ ys) first second) in
    ap (λ xs. xs ++ bytes_restored kept (left - n) (bits_of others)) e ∙ (append_assoc now (bytes_restored kept n (digits 2 (n * c) word)) (bytes_restored kept (left - n) (bits_of others)) ∙ (ap (λ xs. now ++ xs) (sym both) ∙ so_far))

-- enough is left
pub round_left : (kept : KeptBits) (left n f : ℕ) (rest others : List ℕ) → left * kept.count ≤ 8 * length rest → IsRound kept left n f rest → others ≡ drop f rest → (left - n) * kept.count ≤ 8 * length others
round_left kept left n f rest others enough r others_are = elim (cases_lt n left) [
  | inl less ↦ (let m = r.more less in
      let c = kept.count in
      let sum : left * c ≡ 8 * c + (left - n) * c = let e : left ≡ 8 + (left - n) = omega (arith, less, m.0) in ap (λ k. k * c) e ∙ grind arith in
      let long : length others ≡ length rest - f = ap length others_are ∙ length-drop f rest in
      omega (arith, sum, enough, long, m.1, r.front))
  | inr all ↦ (let none : (left - n) * kept.count ≡ 0 = let e : left - n ≡ 0 = omega (arith, all) in ap (λ k. k * kept.count) e ∙ omega arith in omega (arith, none))
]

-- ---- elements of one byte

record IsOne (first : ℕ) (last : Option ℕ) (c : Component) (kept : KeptBits) : Type 0 where
  byte : c.byte_count ≡ 1
  from : kept.first ≡ first
  many : kept.count ≡ kept_bits first last c
  ends : last_kept last c + 1 ≡ kept.first + kept.count
  sign : c.sign ≡ sign_of kept.sign

one_restored : (first : ℕ) (last : Option ℕ) (c : Component) (kept : KeptBits) (bits : List ℕ) → IsOne first last c kept → element_of_bits first last (c ∷ []) bits ≡ byte_restored kept (number 2 (take kept.count bits)) ∷ []
one_restored first last c kept bits s =
    let n = number 2 (take (kept_bits first last c) bits) * 2 ^ first in
    let e = last_kept last c + 1 in
    append-nil (digits 256 c.byte_count (extended c.sign e c.byte_count n))
    ∙ (ap (λ w. digits 256 w (extended c.sign e w n)) s.byte
    ∙ (ap (λ g. extended g e 1 n % 256 ∷ []) s.sign
    ∙ (ap (λ m. extended (sign_of kept.sign) m 1 n % 256 ∷ []) s.ends
    ∙ ap₂ (λ k f. extended (sign_of kept.sign) (kept.first + kept.count) 1 (number 2 (take k bits) * 2 ^ f) % 256 ∷ []) (sym s.many) (sym s.from))))

take_again : (n : ℕ) (bits : List ℕ) → take n (take n bits) ≡ take n bits
take_again zero bits = refl
take_again (suc n) [] = refl
take_again (suc n) (b ∷ bits) = ap (λ bs. b ∷ bs) (take_again n bits)

restored_from : (first : ℕ) (last : Option ℕ) (c : Component) (kept : KeptBits) (bits : List ℕ) (start n : ℕ) → IsOne first last c kept
    → flat_map (element_in first last (c ∷ []) bits) (range_with_len start n) ≡ bytes_restored kept n (drop (start * kept.count) bits)
restored_from first last c kept bits start zero s = refl
restored_from first last c kept bits start (suc n) s =
    let count = kept.count in
    let width : bits_in first last (c ∷ []) ≡ count = let k = s.many in omega (arith, k) in
    let rest = drop (start * count) bits in
    let others = flat_map (element_in first last (c ∷ []) bits) (range_with_len (start + 1) n) in
    let element : element_in first last (c ∷ []) bits start ≡ byte_restored kept (number 2 (take count rest)) ∷ [] =
    ap (λ w. element_of_bits first last (c ∷ []) (take w (drop (start * w) bits))) width
    ∙ (one_restored first last c kept (take count rest) s ∙ ap (λ ns. byte_restored kept (number 2 ns) ∷ []) (take_again count rest)) in
    let next : drop ((start + 1) * count) bits ≡ drop count rest = let e : (start + 1) * count ≡ start * count + count = grind arith in ap (λ k. drop k bits) e ∙ sym (drop-drop count (start * count) bits) in
    ap (λ ns. ns ++ others) element
    ∙ ap (λ ns. byte_restored kept (number 2 (take count rest)) ∷ ns) (restored_from first last c kept bits (start + 1) n s ∙ ap (bytes_restored kept n) next)

pub single_restored : (first : ℕ) (last : Option ℕ) (parts : List Component) (kept : KeptBits) (count : ℕ) (bits : List ℕ) → AreSingle first last parts kept → bytes_restored kept count bits ≡ bytes_of first last parts count bits
single_restored first last parts kept count bits s =
    let none : 0 * kept.count ≡ 0 = omega arith in
    let one : IsOne first last s.part kept = record { byte = s.byte; from = s.from; many = s.many; ends = s.ends; sign = s.sign } in
    sym (ap (λ ps. bytes_of first last ps count bits) s.one ∙ (restored_from first last s.part kept bits 0 count one ∙ ap (λ k. bytes_restored kept count (drop k bits)) none))

pub single_enough : (first : ℕ) (last : Option ℕ) (parts : List Component) (kept : KeptBits) (count long : ℕ) → AreSingle first last parts kept → count * bits_in first last parts ≤ long → count * kept.count ≤ long
single_enough first last parts kept count long s h =
    let many = s.many in
    let width : bits_in first last parts ≡ kept.count = ap (bits_in first last) s.one ∙ omega (arith, many) in
    let same = ap (λ k. count * k) width in
    omega (arith, h, same)

pub single_room : (padding : Padding) (first : ℕ) (last : Option ℕ) (parts : List Component) (kept : KeptBits) (count : ℕ) (value bytes : List ℕ) → AreSingle first last parts kept → length value ≡ packed_size padding first last parts count
    → bytes ≡ without_padding padding value → count * kept.count ≤ 8 * length bytes
single_room padding first last parts kept count value bytes s long is =
    let inner = without_padding padding value in
    let all = enough_to_restore padding first last parts count value long in
    let read = ap (λ n. count * n) (restore_read first last parts) in
    let same = ap length is in
    single_enough first last parts kept count (8 * length bytes) s (omega (arith, all, read, same, length-bits_of inner))
