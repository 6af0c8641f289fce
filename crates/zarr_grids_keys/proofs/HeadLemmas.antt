-- What stands after the last slash of a store key: of a chunk's key it begins with c or a digit, of a document's it is the name.
use Rattle.std.proofs.Common.{◌≡◌, ◌∙◌, ℕ, zero, suc, ◌+◌, ◌/◌, ◌%◌, ◌<◌, true, false, not, cond, IsTrue, nat_lt, ◌||◌, ◌==◌, List, [], ◌∷◌, ◌++◌, drop, refl, sym, ap, subst, arith, mod-lt, codes, inl, inr}
use Rattle.std.specs.Fmt.{decimal, digits, digits_onto, digit_glyph}
use Rattle.std.specs.List.{list_any}
use Rattle.std.specs.Str.{bytes_eq}
use Rattle.std.proofs.lemmas.Bool.{ne_eqb, not-true, not_from_false, or_parts}
use Rattle.zarr_grids_keys.specs.declared.document_name.DocumentName.{DocumentName}
use Rattle.zarr_grids_keys.specs.declared.document_name.DocumentName.TheVariants.{ZarrJson, ZArray, ZAttrs}
use Rattle.zarr_grids_keys.specs.Documents.{document_name, document_key}
use Rattle.zarr_grids_keys.specs.Keys.{KeyEncoding, default, v2, suffixed, numbers_after, default_key, encoded_key, key_under, chunk_key, is_separator, has_separator, has_flat_suffix}
use Rattle.zarr_grids_keys.proofs.KeyLemmas.{is_separator-cases, key_under-injective}

-- c, a digit, or a byte between them
abbrev pub IsHead : ℕ → Type 0
IsHead x = (47 < x) × (x < 100)

-- a text of such bytes
abbrev pub AreHeads : List ℕ → Type 0
AreHeads [] = Unit {0}
AreHeads (x ∷ xs) = IsHead x × AreHeads xs

-- such a text that is not empty
abbrev pub HasHead : List ℕ → Type 0
HasHead [] = ⊥
HasHead (x ∷ xs) = IsHead x × AreHeads xs

HasHead-all : (xs : List ℕ) → HasHead xs → AreHeads xs
HasHead-all [] h = tt
HasHead-all (x ∷ xs) h = h

-- ---- numbers

digit_glyph-head : (d : ℕ) → d < 10 → IsHead (digit_glyph false d)
digit_glyph-head d low =
    elim (nat_lt d 10) as (λ b. IsHead (cond b (48 + d) (87 + d))) [
      | true ↦ (omega (arith, low), omega (arith, low))
      | false ↦ (omega (arith, low), omega (arith, low))
    ]

digits_onto-heads : (k n x : ℕ) (xs : List ℕ) → HasHead (x ∷ xs) → HasHead (digits_onto k 10 false n (x ∷ xs))
digits_onto-heads zero n x xs h = h
digits_onto-heads (suc k) n x xs h =
    let g : HasHead (digit_glyph false (n % 10) ∷ x ∷ xs) = (digit_glyph-head (n % 10) (mod-lt n (omega arith)), h) in
    elim (n / 10 == 0) as (λ b. HasHead (cond b (digit_glyph false (n % 10) ∷ x ∷ xs) (digits_onto k 10 false (n / 10) (digit_glyph false (n % 10) ∷ x ∷ xs)))) [
      | true ↦ g
      | false ↦ digits_onto-heads k (n / 10) (digit_glyph false (n % 10)) (x ∷ xs) g
    ]

digits_onto-head : (k n : ℕ) → 0 < k → HasHead (digits_onto k 10 false n [])
digits_onto-head zero n some = absurd (omega arith)
digits_onto-head (suc k) n some =
    let g : HasHead (digit_glyph false (n % 10) ∷ []) = (digit_glyph-head (n % 10) (mod-lt n (omega arith)), tt) in
    elim (n / 10 == 0) as (λ b. HasHead (cond b (digit_glyph false (n % 10) ∷ []) (digits_onto k 10 false (n / 10) (digit_glyph false (n % 10) ∷ [])))) [
      | true ↦ g
      | false ↦ digits_onto-heads k (n / 10) (digit_glyph false (n % 10)) [] g
    ]

-- a number is written in digits, however large it is
pub decimal-head : (n : ℕ) → HasHead (decimal n)
unfolding digits
decimal-head n = digits_onto-head 64 n (omega arith)

-- ---- after the last slash

-- the first byte after the last slash of a text that another stands before, where the given byte is that of the other; 47 where there is none
abbrev pub head_step : ℕ → ℕ → ℕ
head_step z x = cond (x == 47) 47 (cond (z == 47) x z)

abbrev pub last_head : ℕ → List ℕ → ℕ
last_head z [] = z
last_head z (x ∷ xs) = last_head (head_step z x) xs

last_head-append : (z : ℕ) (xs ys : List ℕ) → last_head z (xs ++ ys) ≡ last_head (last_head z xs) ys
last_head-append z [] ys = refl
last_head-append z (x ∷ xs) ys = last_head-append (head_step z x) xs ys

-- under a path it is that of the name
last_head-key_under : (path name : List ℕ) → last_head 47 (key_under path name) ≡ last_head 47 name
last_head-key_under path name =
    elim (bytes_eq path (codes "/")) as (λ b. last_head 47 (cond b name (drop 1 path ++ 47 ∷ name)) ≡ last_head 47 name) [
      | true ↦ refl
      | false ↦ last_head-append 47 (drop 1 path) (47 ∷ name)
    ]

head_step-other : (z x : ℕ) → IsHead z → (x == 47) ≡ false → head_step z x ≡ z
head_step-other z x h e = ap (λ b. cond b 47 (cond (z == 47) x z)) e ∙ ap (λ b. cond b x z) (ne_eqb z 47 (λ f. omega (arith, f, h.0)))

head_step-first : (x : ℕ) → IsHead x → head_step 47 x ≡ x
head_step-first x h = ap (λ b. cond b 47 x) (ne_eqb x 47 (λ f. omega (arith, f, h.0)))

-- no byte but a slash changes it
last_head-flat : (z : ℕ) (xs : List ℕ) → IsHead z → IsTrue (not (list_any (λ byte. byte == 47) xs)) → last_head z xs ≡ z
last_head-flat z [] h p = refl
last_head-flat z (x ∷ xs) h p =
    let f = or_parts (x == 47) (list_any (λ byte. byte == 47) xs) (not-true (x == 47 || list_any (λ byte. byte == 47) xs) p) in
    ap (λ y. last_head y xs) (head_step-other z x h f.0) ∙ last_head-flat z xs h (not_from_false (list_any (λ byte. byte == 47) xs) f.1)

last_head-heads : (z : ℕ) (xs : List ℕ) → IsHead z → AreHeads xs → last_head z xs ≡ z
last_head-heads z [] h p = refl
last_head-heads z (x ∷ xs) h p = ap (λ y. last_head y xs) (head_step-other z x h (ne_eqb x 47 (λ f. omega (arith, f, p.0.0)))) ∙ last_head-heads z xs h p.1

last_head-first : (xs : List ℕ) → HasHead xs → IsHead (last_head 47 xs)
last_head-first [] h = absurd h
last_head-first (x ∷ xs) h = subst IsHead (sym (ap (λ y. last_head y xs) (head_step-first x h.0) ∙ last_head-heads x xs h.0 h.1)) h.0

-- a separator and a number
last_head-number : (separator z n : ℕ) → IsTrue (is_separator separator) → IsHead z → IsHead (last_head z (separator ∷ decimal n))
last_head-number separator z n s h = elim (is_separator-cases separator s) [
  | inl e ↦ subst (λ x. IsHead (last_head z (x ∷ decimal n))) (sym e) (last_head-first (decimal n) (decimal-head n))
  | inr e ↦ subst (λ x. IsHead (last_head z (x ∷ decimal n))) (sym e) (subst IsHead (sym (ap (λ y. last_head y (decimal n)) (head_step-other z 46 h refl) ∙ last_head-heads z (decimal n) h (HasHead-all (decimal n) (decimal-head n)))) h)
]

last_head-numbers : (separator z : ℕ) (chunk : List ℕ) → IsTrue (is_separator separator) → IsHead z → IsHead (last_head z (numbers_after separator chunk))
last_head-numbers separator z [] s h = h
last_head-numbers separator z (n ∷ ns) s h =
    let i = last_head-numbers separator (last_head z (separator ∷ decimal n)) ns s (last_head-number separator z n s h) in
    subst IsHead (sym (last_head-append z (separator ∷ decimal n) (numbers_after separator ns))) i

-- of a chunk's key it is c or a digit
last_head-encoded_key : (keys : KeyEncoding) (chunk : List ℕ) → IsTrue (has_flat_suffix keys) → IsTrue (has_separator keys) → IsHead (last_head 47 (encoded_key keys chunk))
last_head-encoded_key (default separator) chunk p s = last_head-numbers separator 99 chunk s (omega arith, omega arith)
last_head-encoded_key (v2 separator) [] p s = (omega arith, omega arith)
last_head-encoded_key (v2 separator) (n ∷ ns) p s = subst IsHead (sym (last_head-append 47 (decimal n) (numbers_after separator ns))) (last_head-numbers separator (last_head 47 (decimal n)) ns s (last_head-first (decimal n) (decimal-head n)))
last_head-encoded_key (suffixed separator suffix) chunk p s =
    let h = last_head-numbers separator 99 chunk s (omega arith, omega arith) in
    subst IsHead (sym (last_head-append 47 (default_key separator chunk) suffix ∙ last_head-flat (last_head 47 (default_key separator chunk)) suffix h p)) h

-- of a document's key it is neither
last_head-document_name : (name : DocumentName) → IsHead (last_head 47 (document_name name)) → ⊥
last_head-document_name ZarrJson h = omega (arith, h.1)
last_head-document_name ZArray h = omega (arith, h.0)
last_head-document_name ZAttrs h = omega (arith, h.0)

-- no chunk's key is that of a document
pub chunk_key-no_document : (p q : List ℕ) (keys : KeyEncoding) (chunk : List ℕ) (name : DocumentName) → IsTrue (has_flat_suffix keys) → IsTrue (has_separator keys) → chunk_key p keys chunk ≡ document_key q name → ⊥
chunk_key-no_document p q keys chunk name flat s e =
    let f = sym (last_head-key_under p (encoded_key keys chunk)) ∙ ap (last_head 47) e ∙ last_head-key_under q (document_name name) in
    last_head-document_name name (subst IsHead f (last_head-encoded_key keys chunk flat s))

-- ---- at the start

abbrev pub BeginsWithHead : List ℕ → Type 0
BeginsWithHead [] = ⊥
BeginsWithHead (x ∷ xs) = IsHead x

BeginsWithHead-append : (xs ys : List ℕ) → HasHead xs → BeginsWithHead (xs ++ ys)
BeginsWithHead-append [] ys h = absurd h
BeginsWithHead-append (x ∷ xs) ys h = h.0

-- a chunk's encoded key begins with c or a digit
BeginsWithHead-encoded_key : (keys : KeyEncoding) (chunk : List ℕ) → BeginsWithHead (encoded_key keys chunk)
BeginsWithHead-encoded_key (default separator) chunk = (omega arith, omega arith)
BeginsWithHead-encoded_key (v2 separator) [] = (omega arith, omega arith)
BeginsWithHead-encoded_key (v2 separator) (n ∷ ns) = BeginsWithHead-append (decimal n) (numbers_after separator ns) (decimal-head n)
BeginsWithHead-encoded_key (suffixed separator suffix) chunk = (omega arith, omega arith)

-- no name of a document does
BeginsWithHead-document_name : (name : DocumentName) → BeginsWithHead (document_name name) → ⊥
BeginsWithHead-document_name ZarrJson h = omega (arith, h.1)
BeginsWithHead-document_name ZArray h = omega (arith, h.0)
BeginsWithHead-document_name ZAttrs h = omega (arith, h.0)

-- no chunk's key is that of a document of its array
pub chunk_key-no_own_document : (path : List ℕ) (keys : KeyEncoding) (chunk : List ℕ) (name : DocumentName) → chunk_key path keys chunk ≡ document_key path name → ⊥
chunk_key-no_own_document path keys chunk name e = BeginsWithHead-document_name name (subst BeginsWithHead (key_under-injective path (encoded_key keys chunk) (document_name name) e) (BeginsWithHead-encoded_key keys chunk))
