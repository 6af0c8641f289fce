-- The key of a chunk determines the chunk, that of a document the document.
use Rattle.std.proofs.Common.{◌≡◌, ◌∙◌, ℕ, suc, ◌^◌, ◌<◌, true, false, cond, IsTrue, ◌==◌, List, [], ◌∷◌, ◌++◌, length, drop, inl, inr, ◌⊎◌, refl, sym, ap, ap₂, arith, codes}
use Rattle.std.specs.Fmt.{decimal}
use Rattle.std.specs.Str.{bytes_eq}
use Rattle.std.specs.Str.Parse.{AllDigits}
use Rattle.std.proofs.lemmas.Bool.{eqb-true, or_cases}
use Rattle.std.proofs.lemmas.Fmt.{decimal_injective, decimal_is_IsNumeral}
use Rattle.std.proofs.lemmas.List.{append_cancel_left, append_cancel_right}
use Rattle.std.proofs.lemmas.Str.Parse.{digit_at}
use Rattle.zarr_grids_boxes.specs.Boxes.{IsSmall}
use Rattle.zarr_grids_keys.specs.declared.document_name.DocumentName.{DocumentName}
use Rattle.zarr_grids_keys.specs.declared.document_name.DocumentName.TheVariants.{ZarrJson, ZArray, ZAttrs}
use Rattle.zarr_grids_keys.specs.Documents.{document_name, document_key}
use Rattle.zarr_grids_keys.specs.Keys.{KeyEncoding, default, v2, suffixed, numbers_after, default_key, encoded_key, key_under, chunk_key, is_separator, is_v2, has_separator}
use Rattle.zarr_grids_keys.specs.Paths.{is_node_path}
use Rattle.zarr_grids_keys.proofs.RelatedLemmas.{stem, stem-injective, key_under-stem}

-- nothing, or a text that begins with a byte below the digits
IsRest : List ℕ → Type 0
IsRest [] = Unit {0}
IsRest (x ∷ xs) = x < 48

-- numerals with such texts after them
split_same : (a b x y : List ℕ) → AllDigits 10 a → AllDigits 10 b → IsRest x → IsRest y → a ++ x ≡ b ++ y → (a ≡ b) × (x ≡ y)
unfolding IsRest
split_same [] [] x y p q r s e = (refl, e)
split_same [] (b ∷ bs) [] y p q r s e = absurd (cc)
split_same [] (b ∷ bs) (h ∷ t) y p q r s e = let d = digit_at (b ∷ bs) 0 q (omega arith) in let f : h ≡ b = cc in absurd (omega (arith, d.0))
split_same (a ∷ as') [] x [] p q r s e = absurd (cc)
split_same (a ∷ as') [] x (h ∷ t) p q r s e = let d = digit_at (a ∷ as') 0 p (omega arith) in let f : a ≡ h = cc in absurd (omega (arith, d.0))
split_same (a ∷ as') (b ∷ bs) x y p q r s e =
    let f : a ≡ b = cc in
    let g : as' ++ x ≡ bs ++ y = cc in
    let i = split_same as' bs x y p.1 q.1 r s g in
    (ap₂ (λ z zs. z ∷ zs) f i.0, i.1)

-- the numbers of a chunk
numbers_after-IsRest : (separator : ℕ) (chunk : List ℕ) → separator < 48 → IsRest (numbers_after separator chunk)
unfolding IsRest
numbers_after-IsRest separator [] low = tt
numbers_after-IsRest separator (n ∷ ns) low = low

numbers_after-injective : (separator : ℕ) (c d : List ℕ) → separator < 48 → IsSmall c → IsSmall d → numbers_after separator c ≡ numbers_after separator d → c ≡ d
numbers_after-injective separator [] [] low p q e = refl
numbers_after-injective separator [] (d ∷ ds) low p q e = absurd (cc)
numbers_after-injective separator (c ∷ cs) [] low p q e = absurd (cc)
numbers_after-injective separator (c ∷ cs) (d ∷ ds) low p q e =
    let l : c < 2 ^ 64 = p 0 (omega arith) in
    let m : d < 2 ^ 64 = q 0 (omega arith) in
    let f : decimal c ++ numbers_after separator cs ≡ decimal d ++ numbers_after separator ds = cc in
    let s = split_same (decimal c) (decimal d) (numbers_after separator cs) (numbers_after separator ds) (decimal_is_IsNumeral c l).0.1 (decimal_is_IsNumeral d m).0.1 (numbers_after-IsRest separator cs low) (numbers_after-IsRest separator ds low) f in
    let i = numbers_after-injective separator cs ds low (λ k h. p (suc k) (omega arith)) (λ k h. q (suc k) (omega arith)) s.1 in
    ap₂ (λ z zs. z ∷ zs) (decimal_injective c d l m s.0) i

-- a separator is one of two bytes
pub is_separator-cases : (separator : ℕ) → IsTrue (is_separator separator) → (separator ≡ 47) ⊎ (separator ≡ 46)
is_separator-cases separator h = elim (or_cases (separator == 47) (separator == 46) h) [ inl e ↦ inl (eqb-true separator 47 e) | inr e ↦ inr (eqb-true separator 46 e) ]

separator_below_digits : (separator : ℕ) → IsTrue (is_separator separator) → separator < 48
separator_below_digits separator h = elim (is_separator-cases separator h) [ inl e ↦ omega (arith, e) | inr e ↦ omega (arith, e) ]

default_key-injective : (separator : ℕ) (c d : List ℕ) → IsTrue (is_separator separator) → IsSmall c → IsSmall d → default_key separator c ≡ default_key separator d → c ≡ d
default_key-injective separator c d h p q e =
    let f : numbers_after separator c ≡ numbers_after separator d = cc in
    numbers_after-injective separator c d (separator_below_digits separator h) p q f

-- chunks with one encoded key are one
pub encoded_key-injective : (keys : KeyEncoding) (c d : List ℕ) → IsTrue (has_separator keys) → length c ≡ length d → IsSmall c → IsSmall d → encoded_key keys c ≡ encoded_key keys d → c ≡ d
encoded_key-injective (default separator) c d h l p q e = default_key-injective separator c d h p q e
encoded_key-injective (v2 separator) [] [] h l p q e = refl
encoded_key-injective (v2 separator) [] (d ∷ ds) h l p q e = absurd (omega arith)
encoded_key-injective (v2 separator) (c ∷ cs) [] h l p q e = absurd (omega arith)
encoded_key-injective (v2 separator) (c ∷ cs) (d ∷ ds) h l p q e = numbers_after-injective separator (c ∷ cs) (d ∷ ds) (separator_below_digits separator h) p q (ap (λ z. separator ∷ z) e)
encoded_key-injective (suffixed separator suffix) c d h l p q e = default_key-injective separator c d h p q (append_cancel_right (default_key separator c) (default_key separator d) suffix e)

-- names with one key under a path are one
pub key_under-injective : (path x y : List ℕ) → key_under path x ≡ key_under path y → x ≡ y
key_under-injective path x y e =
    elim (bytes_eq path (codes "/")) as (λ b. cond b x (drop 1 path ++ 47 ∷ x) ≡ cond b y (drop 1 path ++ 47 ∷ y) → x ≡ y) [
      | true ↦ λ f. f
      | false ↦ λ f. let g = append_cancel_left (drop 1 path) (47 ∷ x) (47 ∷ y) f in cc
    ] e

-- chunks with one key are one
pub chunk_key-injective : (path : List ℕ) (keys : KeyEncoding) (c d : List ℕ) → IsTrue (has_separator keys) → length c ≡ length d → IsSmall c → IsSmall d → chunk_key path keys c ≡ chunk_key path keys d → c ≡ d
chunk_key-injective path keys c d h l p q e = encoded_key-injective keys c d h l p q (key_under-injective path (encoded_key keys c) (encoded_key keys d) e)

-- chunks with one key of an encoding other than `v2` are one, of as many dimensions or not
pub encoded_key-default : (keys : KeyEncoding) (c d : List ℕ) → is_v2 keys ≡ false → IsTrue (has_separator keys) → IsSmall c → IsSmall d → encoded_key keys c ≡ encoded_key keys d → c ≡ d
encoded_key-default (default separator) c d v h p q e = default_key-injective separator c d h p q e
encoded_key-default (v2 separator) c d v h p q e = absurd (cc)
encoded_key-default (suffixed separator suffix) c d v h p q e = default_key-injective separator c d h p q (append_cancel_right (default_key separator c) (default_key separator d) suffix e)

pub chunk_key-default : (path : List ℕ) (keys : KeyEncoding) (c d : List ℕ) → is_v2 keys ≡ false → IsTrue (has_separator keys) → IsSmall c → IsSmall d → chunk_key path keys c ≡ chunk_key path keys d → c ≡ d
chunk_key-default path keys c d v h p q e = encoded_key-default keys c d v h p q (key_under-injective path (encoded_key keys c) (encoded_key keys d) e)

-- the last byte of a text, or the given number if the text is empty
abbrev pub last_byte : ℕ → List ℕ → ℕ
last_byte z [] = z
last_byte z (x ∷ xs) = last_byte x xs

last_byte-append : (z : ℕ) (xs ys : List ℕ) → last_byte z (xs ++ ys) ≡ last_byte (last_byte z xs) ys
last_byte-append z [] ys = refl
last_byte-append z (x ∷ xs) ys = last_byte-append x xs ys

-- a store key ends as the name under the path does
last_byte-key_under : (path name : List ℕ) → last_byte 47 (key_under path name) ≡ last_byte 47 name
last_byte-key_under path name =
    elim (bytes_eq path (codes "/")) as (λ b. last_byte 47 (cond b name (drop 1 path ++ 47 ∷ name)) ≡ last_byte 47 name) [
      | true ↦ refl
      | false ↦ last_byte-append 47 (drop 1 path) (47 ∷ name)
    ]

-- keys that are one have names with one last byte
same_last_byte : (p q x y : List ℕ) → key_under p x ≡ key_under q y → last_byte 47 x ≡ last_byte 47 y
same_last_byte p q x y e = sym (last_byte-key_under p x) ∙ ap (last_byte 47) e ∙ last_byte-key_under q y

-- names of documents with one last byte are one
document_name-by_last : (name other : DocumentName) → last_byte 47 (document_name name) ≡ last_byte 47 (document_name other) → name ≡ other
document_name-by_last ZarrJson ZarrJson e = refl
document_name-by_last ZarrJson ZArray e = absurd (omega (arith, e))
document_name-by_last ZarrJson ZAttrs e = absurd (omega (arith, e))
document_name-by_last ZArray ZarrJson e = absurd (omega (arith, e))
document_name-by_last ZArray ZArray e = refl
document_name-by_last ZArray ZAttrs e = absurd (omega (arith, e))
document_name-by_last ZAttrs ZarrJson e = absurd (omega (arith, e))
document_name-by_last ZAttrs ZArray e = absurd (omega (arith, e))
document_name-by_last ZAttrs ZAttrs e = refl

-- documents with one key are one document of one node
pub document_key-injective : (p q : List ℕ) (name other : DocumentName) → IsTrue (is_node_path p) → IsTrue (is_node_path q) → document_key p name ≡ document_key q other → (p ≡ q) × (name ≡ other)
document_key-injective p q name other hp hq e =
    let same : name ≡ other = document_name-by_last name other (same_last_byte p q (document_name name) (document_name other) e) in
    let f = sym (key_under-stem p (document_name name) hp) ∙ ap (λ key. 47 ∷ key) e ∙ key_under-stem q (document_name other) hq ∙ ap (λ n. stem q ++ 47 ∷ document_name n) (sym same) in
    (stem-injective p q hp hq (append_cancel_right (stem p) (stem q) (47 ∷ document_name name) f), same)
