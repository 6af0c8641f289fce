-- The bits of bytes, moved to the front of others.
use Rattle.std.proofs.Common.{◌≡◌, ℕ, ◌+◌, ◌-◌, ◌*◌, ◌/◌, ◌%◌, ◌^◌, ◌<◌, ◌≤◌, List, [], ◌∷◌, ◌++◌, length, get_or, take, drop, replicate, ap, ap₂, ◌∙◌, sym, arith, append_assoc, append-nil, length-append, take-append-drop}
use Rattle.std.proofs.Math.Seq.{take-add}
use Rattle.std.proofs.lemmas.List.{drop-append-le, drop-drop, drop_at, length-replicate, take-append-le, take_all, take_at}
use Rattle.std.proofs.lemmas.Nat.{div-mul-add, mod-mul-add}
use Rattle.zarr_codecs_meaning.specs.Numbers.{digits}
use Rattle.zarr_codecs_meaning.proofs.Values.{length-digits}
use Rattle.zarr_codecs_packbits.specs.Turning.{bits_of}
use Rattle.zarr_codecs_packbits.proofs.BitLists.{bits_append, digits_append, drop_bits, length-bits_of, same_bits, zero_digits}

-- the bits of a byte and of what follows it, from one of them on
next_byte : (skip a b : ℕ) (ys : List ℕ) → a < 256 → take skip ys ≡ digits 2 skip b → digits 2 8 ((a + 256 * b) / 2 ^ skip % 256) ≡ take 8 (drop skip (digits 2 8 a ++ ys))
next_byte skip a b ys small h =
    let n = a + 256 * b in
    let m = n / 2 ^ skip in
    let front = digits 2 8 a in
    let back = digits 2 skip b in
    let rest = drop skip ys in
    let turned : n ≡ b * 256 + a = omega arith in
    let low : digits 2 8 n ≡ front = sym (same_bits 8 n) ∙ ap (digits 2 8) (ap (λ k. k % 256) turned ∙ mod-mul-add b 256 a small) in
    let high : n / 256 ≡ b = ap (λ k. k / 256) turned ∙ div-mul-add b 256 a small in
    let two : digits 2 (8 + skip) n ≡ front ++ back = digits_append 8 skip n ∙ ap₂ (λ ds k. ds ++ digits 2 skip k) low high in
    let sum : skip + 8 ≡ 8 + skip = omega arith in
    let core : drop skip (front ++ back) ≡ digits 2 8 m =
    ap (drop skip) (sym two ∙ (ap (λ k. digits 2 k n) (sym sum) ∙ digits_append skip 8 n)) ∙ drop_at (digits 2 skip n) (digits 2 8 m) skip (length-digits 2 skip n) in
    let all : front ++ ys ≡ (front ++ back) ++ rest = ap (λ zs. front ++ zs) (sym (take-append-drop skip ys) ∙ ap (λ zs. zs ++ rest) h) ∙ sym (append_assoc front back rest) in
    let long : skip ≤ length (front ++ back) = let l = length-append front back in omega (arith, l, length-digits 2 skip b) in
    same_bits 8 m
    ∙ sym (ap (λ zs. take 8 (drop skip zs)) all
    ∙ (ap (take 8) (drop-append-le skip (front ++ back) rest long)
    ∙ (ap (λ zs. take 8 (zs ++ rest)) core ∙ take_at (digits 2 8 m) rest 8 (length-digits 2 8 m))))

zeros : (skip : ℕ) → take skip (replicate skip 0) ≡ digits 2 skip 0
zeros skip = take_all skip (replicate skip 0) (let l = length-replicate {A = ℕ} skip 0 in omega (arith, l)) ∙ sym (zero_digits skip)

first_digits : (skip b : ℕ) (ys : List ℕ) → skip ≤ 8 → take skip (digits 2 8 b ++ ys) ≡ digits 2 skip b
first_digits skip b ys most =
    let sum : skip + (8 - skip) ≡ 8 = omega (arith, most) in
    let long : skip ≤ length (digits 2 8 b) = let l = length-digits 2 8 b in omega (arith, l, most) in
    take-append-le skip (digits 2 8 b) ys long
    ∙ (ap (λ k. take skip (digits 2 k b)) (sym sum)
    ∙ (ap (take skip) (digits_append skip (8 - skip) b) ∙ take_at (digits 2 skip b) (digits 2 (8 - skip) (b / 2 ^ skip)) skip (length-digits 2 skip b)))

-- the first byte of bits that were moved
pub first_moved : (skip a b : ℕ) (bytes : List ℕ) → skip ≤ 8 → 0 < length bytes → a < 256 → a ≡ get_or bytes 0 0 → b ≡ get_or bytes 1 0 → digits 2 8 ((a + 256 * b) / 2 ^ skip % 256) ≡ take 8 (drop skip (bits_of bytes ++ replicate skip 0))
first_moved skip a b [] most some small first second = absurd (omega (arith, some))
first_moved skip a b (x ∷ []) most some small first second =
    let none : List ℕ = replicate skip 0 in
    next_byte skip a b none small (zeros skip ∙ ap (digits 2 skip) (sym second))
    ∙ ap (λ k. take 8 (drop skip (k ++ none))) (ap (digits 2 8) first ∙ sym (append-nil (digits 2 8 x)))
first_moved skip a b (x ∷ (y ∷ bytes)) most some small first second =
    let none : List ℕ = replicate skip 0 in
    let rest = bits_of bytes in
    let next = digits 2 8 y ++ rest in
    let start : take skip (next ++ none) ≡ digits 2 skip b = ap (take skip) (append_assoc (digits 2 8 y) rest none) ∙ (first_digits skip y (rest ++ none) most ∙ ap (digits 2 skip) (sym second)) in
    next_byte skip a b (next ++ none) small start
    ∙ ap (λ zs. take 8 (drop skip zs)) (ap (λ k. digits 2 8 k ++ (next ++ none)) first ∙ sym (append_assoc (digits 2 8 x) next none))

-- a byte more of bits that were moved
pub moved_more : (skip i byte : ℕ) (bytes rest made next : List ℕ) → i < length bytes → rest ≡ drop i bytes → digits 2 8 byte ≡ take 8 (drop skip (bits_of rest ++ replicate skip 0)) → next ≡ made ++ byte ∷ []
    → bits_of made ≡ take (8 * i) (drop skip (bits_of bytes ++ replicate skip 0)) → bits_of next ≡ take (8 * (i + 1)) (drop skip (bits_of bytes ++ replicate skip 0))
moved_more skip i byte bytes rest made next below left one is so_far =
    let none : List ℕ = replicate skip 0 in
    let all = bits_of bytes ++ none in
    let moved = drop skip all in
    let enough : 8 * i ≤ length (bits_of bytes) = let l = length-bits_of bytes in omega (arith, l, below) in
    let here : bits_of rest ++ none ≡ drop (8 * i) all = ap (λ bs. bs ++ none) (ap bits_of left ∙ sym (drop_bits i bytes (omega (arith, below)))) ∙ sym (drop-append-le (8 * i) (bits_of bytes) none enough) in
    let sum : 8 * i + skip ≡ skip + 8 * i = omega arith in
    let turned : drop skip (drop (8 * i) all) ≡ drop (8 * i) moved = drop-drop skip (8 * i) all ∙ (ap (λ k. drop k all) sum ∙ sym (drop-drop (8 * i) skip all)) in
    let more : 8 * (i + 1) ≡ 8 * i + 8 = omega arith in
    ap bits_of is
    ∙ (bits_append made (byte ∷ [])
    ∙ (ap₂ (λ xs ys. xs ++ ys) so_far (append-nil (digits 2 8 byte) ∙ (one ∙ ap (take 8) (ap (drop skip) here ∙ turned)))
    ∙ sym (ap (λ k. take k moved) more ∙ take-add (8 * i) 8 moved)))
