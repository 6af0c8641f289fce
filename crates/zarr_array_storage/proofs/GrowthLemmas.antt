-- A value that was made as long as it is after ranges were written into it.
use Rattle.std.proofs.Common.{◌≡◌, ◌∙◌, ℕ, ◌+◌, ◌-◌, ◌≤◌, false, ◌||◌, List, [], ◌∷◌, ◌++◌, length, take, drop, replicate, refl, sym, ap, arith, append_assoc, append-nil}
use Rattle.std.proofs.lemmas.Bool.{le-ltb}
use Rattle.std.proofs.lemmas.List.{drop-append-le, length-append, length-drop, length-replicate, length-take-le, replicate-append-replicate, take-append-le}
use Rattle.zarr_codecs_traits.specs.Patches.{Patch, any_ends_past, extended, overwritten, patched, written_at}

-- how many bytes a value of n bytes has after ranges were written into it
abbrev pub grown : ℕ → List Patch → ℕ
grown n [] = n
grown n (patch ∷ patches) = grown (n + (patch.offset + length patch.bytes - n)) patches

length-extended : (value : List ℕ) (n : ℕ) → length (extended value n) ≡ length value + (n - length value)
length-extended value n = length-append value (replicate (n - length value) 0) ∙ ap (λ k. length value + k) (length-replicate (n - length value) 0)

length-overwritten : (value : List ℕ) (offset : ℕ) (bytes : List ℕ) → offset + length bytes ≤ length value → length (overwritten value offset bytes) ≡ length value
length-overwritten value offset bytes within =
    let front = take offset value in
    let back = drop (offset + length bytes) value in
    length-append (front ++ bytes) back ∙ omega (arith, length-append front bytes, length-take-le offset value (omega (arith, within)), length-drop (offset + length bytes) value, within)

length-written_at : (value : List ℕ) (offset : ℕ) (bytes : List ℕ) → length (written_at value offset bytes) ≡ length value + (offset + length bytes - length value)
length-written_at value offset bytes =
    let long = length-extended value (offset + length bytes) in
    length-overwritten (extended value (offset + length bytes)) offset bytes (omega (arith, long)) ∙ long

pub length-patched : (value : List ℕ) (patches : List Patch) → length (patched value patches) ≡ grown (length value) patches
length-patched value [] = refl
length-patched value (patch ∷ patches) = length-patched (written_at value patch.offset patch.bytes) patches ∙ ap (λ n. grown n patches) (length-written_at value patch.offset patch.bytes)

pub grown-le : (n : ℕ) (patches : List Patch) → n ≤ grown n patches
grown-le n [] = omega arith
grown-le n (patch ∷ patches) = omega (arith, grown-le (n + (patch.offset + length patch.bytes - n)) patches)

none_past : (n : ℕ) (patches : List Patch) → any_ends_past (grown n patches) patches ≡ false
none_past n [] = refl
none_past n (patch ∷ patches) =
    let more = n + (patch.offset + length patch.bytes - n) in
    ap (λ b. b || any_ends_past (grown more patches) patches) (le-ltb (grown more patches) (patch.offset + length patch.bytes) (omega (arith, grown-le more patches)))
    ∙ none_past more patches

extended_twice : (value : List ℕ) (n m : ℕ) → extended (extended value n) m ≡ value ++ replicate ((n - length value) + (m - (length value + (n - length value)))) 0
extended_twice value n m =
    let first = n - length value in
    ap (λ k. (value ++ replicate first 0) ++ replicate (m - k) 0) (length-extended value n)
    ∙ append_assoc value (replicate first 0) (replicate (m - (length value + first)) 0)
    ∙ ap (λ zeros. value ++ zeros) (replicate-append-replicate first (m - (length value + first)) 0)

extended_either : (value : List ℕ) (n m : ℕ) → extended (extended value n) m ≡ extended (extended value m) n
extended_either value n m = extended_twice value n m ∙ ap (λ k. value ++ replicate k 0) (omega arith) ∙ sym (extended_twice value m n)

overwritten_front : (value more : List ℕ) (offset : ℕ) (bytes : List ℕ) → offset + length bytes ≤ length value → overwritten (value ++ more) offset bytes ≡ overwritten value offset bytes ++ more
overwritten_front value more offset bytes within =
    let back = drop (offset + length bytes) value in
    ap (λ front. front ++ bytes ++ drop (offset + length bytes) (value ++ more)) (take-append-le offset value more (omega (arith, within)))
    ∙ ap (λ rest. take offset value ++ bytes ++ rest) (drop-append-le (offset + length bytes) value more within)
    ∙ sym (append_assoc (take offset value ++ bytes) back more)

extended_written : (value : List ℕ) (offset : ℕ) (bytes : List ℕ) (n : ℕ) → written_at (extended value n) offset bytes ≡ extended (written_at value offset bytes) n
extended_written value offset bytes n =
    let end = offset + length bytes in
    let long = extended value end in
    let within : end ≤ length long = omega (arith, length-extended value end) in
    ap (λ it. overwritten it offset bytes) (extended_either value n end)
    ∙ overwritten_front long (replicate (n - length long) 0) offset bytes within
    ∙ ap (λ k. overwritten long offset bytes ++ replicate (n - k) 0) (sym (length-overwritten long offset bytes within))

extended_patched : (patches : List Patch) (value : List ℕ) (n : ℕ) → patched (extended value n) patches ≡ extended (patched value patches) n
extended_patched [] value n = refl
extended_patched (patch ∷ patches) value n =
    ap (λ it. patched it patches) (extended_written value patch.offset patch.bytes n)
    ∙ extended_patched patches (written_at value patch.offset patch.bytes) n

extended-length : (value : List ℕ) → extended value (length value) ≡ value
extended-length value =
    let none : length value - length value ≡ 0 = omega arith in
    ap (λ k. value ++ replicate k 0) none ∙ append-nil value

-- ranges are written alike into a value that has its length after that
pub patched-extended : (value : List ℕ) (patches : List Patch) → patched (extended value (length (patched value patches))) patches ≡ patched value patches
patched-extended value patches = extended_patched patches value (length (patched value patches)) ∙ extended-length (patched value patches)

-- into which all of them fit
pub none_past-extended : (value : List ℕ) (patches : List Patch) → any_ends_past (length (extended value (length (patched value patches)))) patches ≡ false
none_past-extended value patches =
    ap (λ n. any_ends_past n patches) (length-extended value (length (patched value patches)) ∙ omega (arith, length-patched value patches, grown-le (length value) patches) ∙ length-patched value patches)
    ∙ none_past (length value) patches
