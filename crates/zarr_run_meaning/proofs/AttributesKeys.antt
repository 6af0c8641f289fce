-- No key of a chunk is that of a node's attributes, unless its suffix ends so, whatever its separator is.
use Rattle.std.proofs.Common.{◌≡◌, ◌∙◌, ◌⊎◌, inl, inr, ⊎_elim, ℕ, Bool, true, false, ◌||◌, ◌==◌, List, [], ◌∷◌, ◌++◌, append_assoc, bytes_eq, refl, sym, ap, arith, subst, IsTrue}
use Rattle.std.specs.Fmt.{decimal}
use Rattle.std.specs.List.{list_any}
use Rattle.std.proofs.Math.Bool.{or-true}
use Rattle.std.proofs.lemmas.List.Folds.{list_any-append}
use Rattle.std.proofs.lemmas.Bool.{false≢true, not-true, or_cases}
use Rattle.std.proofs.lemmas.List.{append-nil, append_cancel_left}
use Rattle.std.proofs.lemmas.Slice.Eq.{bytes_eq-Decides}
use Rattle.zarr_grids_keys.specs.Documents.{document_key, document_name}
use Rattle.zarr_grids_keys.specs.Keys.{KeyEncoding, default, v2, suffixed, numbers_after, default_key, encoded_key, chunk_key, has_flat_suffix}
use Rattle.zarr_grids_keys.specs.Paths.{is_node_path}
use Rattle.zarr_grids_keys.specs.Related.{is_under, is_related}
use Rattle.zarr_grids_keys.specs.declared.document_name.DocumentName.TheVariants.{ZAttrs}
use Rattle.zarr_grids_keys.proofs.HeadLemmas.{AreHeads, HasHead, BeginsWithHead, decimal-head, chunk_key-no_own_document}
use Rattle.zarr_grids_keys.proofs.RelatedLemmas.{is_under-parts, key_under-stem, key_under-unrelated, stem}
use Rattle.zarr_run_meaning.specs.Sound.{EndsOtherwise}

-- whether a text holds a slash
abbrev has_slash : List ℕ → Bool
has_slash text = list_any (λ byte. byte == 47) text

slash_inside : (xs ys : List ℕ) → has_slash (xs ++ 47 ∷ ys) ≡ true
slash_inside [] ys = refl
slash_inside (x ∷ xs) ys = ap (λ b. x == 47 || b) (slash_inside xs ys) ∙ or_true (x == 47) where
  or_true : (b : Bool) → (b || true) ≡ true
  or_true true = refl
  or_true false = refl

begins : (xs ys : List ℕ) → HasHead xs → BeginsWithHead (xs ++ ys)
begins [] ys h = absurd h
begins (x ∷ xs) ys h = h.0

heads_of : (xs : List ℕ) → HasHead xs → AreHeads xs
heads_of [] h = tt
heads_of (x ∷ xs) h = h

-- a slash after digits and letters stands behind these
passed : (xs more front rest : List ℕ) → AreHeads xs → xs ++ more ≡ front ++ 47 ∷ rest → (later : List ℕ) × (more ≡ later ++ 47 ∷ rest)
passed [] more front rest heads e = (front, e)
passed (x ∷ xs) more [] rest heads e = let same : x ≡ 47 = cc in absurd (omega (arith, same, heads.0.0))
passed (x ∷ xs) more (y ∷ front) rest heads e = let same : xs ++ more ≡ front ++ 47 ∷ rest = cc in passed xs more front rest heads.1 same

-- after each slash among the numbers comes a digit
after_slash : (separator : ℕ) (chunk suffix front rest : List ℕ) → has_slash suffix ≡ false → numbers_after separator chunk ++ suffix ≡ front ++ 47 ∷ rest → BeginsWithHead rest
after_slash separator [] suffix front rest flat e = absurd (false≢true (sym flat ∙ ap has_slash e ∙ slash_inside front rest))
after_slash separator (n ∷ ns) suffix front rest flat e = go (λ later. after_slash separator ns suffix later rest flat) front (sym (append_assoc (separator ∷ decimal n) (numbers_after separator ns) suffix) ∙ e) where
  go : ((later : List ℕ) → numbers_after separator ns ++ suffix ≡ later ++ 47 ∷ rest → BeginsWithHead rest) → (front : List ℕ) → separator ∷ (decimal n ++ (numbers_after separator ns ++ suffix)) ≡ front ++ 47 ∷ rest → BeginsWithHead rest
  go more [] f = let same : decimal n ++ (numbers_after separator ns ++ suffix) ≡ rest = cc in subst BeginsWithHead same (begins (decimal n) (numbers_after separator ns ++ suffix) (decimal-head n))
  go more (y ∷ ys) f =
      let same : decimal n ++ (numbers_after separator ns ++ suffix) ≡ ys ++ 47 ∷ rest = cc in
      let later = passed (decimal n) (numbers_after separator ns ++ suffix) ys rest (heads_of (decimal n) (decimal-head n)) same in
      more later.0 later.1

default_slash : (separator : ℕ) (chunk suffix front rest : List ℕ) → has_slash suffix ≡ false → default_key separator chunk ++ suffix ≡ front ++ 47 ∷ rest → BeginsWithHead rest
default_slash separator chunk suffix front rest flat e =
    let later = passed (99 ∷ []) (numbers_after separator chunk ++ suffix) front rest ((omega arith, omega arith), tt) e in
    after_slash separator chunk suffix later.0 rest flat later.1

-- so after each slash of an encoded key comes c or a digit
encoded_slash : (keys : KeyEncoding) (chunk front rest : List ℕ) → IsTrue (has_flat_suffix keys) → encoded_key keys chunk ≡ front ++ 47 ∷ rest → BeginsWithHead rest
encoded_slash (default separator) chunk front rest flat e = default_slash separator chunk [] front rest refl (append-nil (default_key separator chunk) ∙ e)
encoded_slash (v2 separator) [] front rest flat e =
    let later = passed (48 ∷ []) [] front rest ((omega arith, omega arith), tt) e in
    absurd (false≢true (ap has_slash later.1 ∙ slash_inside later.0 rest))
encoded_slash (v2 separator) (n ∷ ns) front rest flat e =
    let later = passed (decimal n) (numbers_after separator ns) front rest (heads_of (decimal n) (decimal-head n)) e in
    after_slash separator ns [] later.0 rest refl (append-nil (numbers_after separator ns) ∙ later.1)
encoded_slash (suffixed separator suffix) chunk front rest flat e = default_slash separator chunk suffix front rest (not-true (has_slash suffix) flat) e

no_attributes_name : BeginsWithHead (document_name ZAttrs) → ⊥
no_attributes_name h = omega (arith, h.0)

-- where two texts are joined as two others, the end of one ends the other
end_of : (xs suffix front rest : List ℕ) → xs ++ suffix ≡ front ++ rest → ((before : List ℕ) × (suffix ≡ before ++ rest)) ⊎ ((before : List ℕ) × (rest ≡ before ++ suffix))
end_of [] suffix front rest e = inl (front, e)
end_of (x ∷ xs) suffix [] rest e = inr (x ∷ xs, sym e)
end_of (x ∷ xs) suffix (y ∷ front) rest e = let same : xs ++ suffix ≡ front ++ rest = cc in end_of xs suffix front rest same

-- a suffix with a slash, behind which the key ends with a slash and the name, ends so
ends_slashed : (suffix before : List ℕ) → has_slash suffix ≡ true → 47 ∷ document_name ZAttrs ≡ before ++ suffix → suffix ≡ 47 ∷ document_name ZAttrs
ends_slashed suffix [] slash e = sym e
ends_slashed suffix (x ∷ before) slash e =
    let same : document_name ZAttrs ≡ before ++ suffix = cc in
    absurd (false≢true (ap has_slash same ∙ list_any-append (λ byte. byte == 47) before suffix ∙ ap (λ b. has_slash before || b) slash ∙ or-true (has_slash before)))

-- an encoded key doesn't end with a slash and the name, unless its suffix does
ends_so : (keys : KeyEncoding) (chunk front : List ℕ) → EndsOtherwise keys → encoded_key keys chunk ≡ front ++ 47 ∷ document_name ZAttrs → ⊥
ends_so (default separator) chunk front ends e = no_attributes_name (encoded_slash (default separator) chunk front (document_name ZAttrs) refl e)
ends_so (v2 separator) chunk front ends e = no_attributes_name (encoded_slash (v2 separator) chunk front (document_name ZAttrs) refl e)
ends_so (suffixed separator suffix) chunk front ends e = go (has_slash suffix) refl where
  go : (b : Bool) → has_slash suffix ≡ b → ⊥
  go false flat = no_attributes_name (default_slash separator chunk suffix front (document_name ZAttrs) flat e)
  go true slash = ⊎_elim
      (λ found. ends found.0 found.1)
      (λ found. ends [] (ends_slashed suffix found.0 slash found.1))
      (end_of (default_key separator chunk) suffix front (47 ∷ document_name ZAttrs) e)

module _ (p q : List ℕ) (keys : KeyEncoding) (chunk : List ℕ) (hp : IsTrue (is_node_path p)) (hq : IsTrue (is_node_path q)) (e : chunk_key p keys chunk ≡ document_key q ZAttrs) where
  abbrev key : List ℕ
  key = encoded_key keys chunk

  abbrev name : List ℕ
  name = document_name ZAttrs

  whole : stem p ++ 47 ∷ key ≡ stem q ++ 47 ∷ name
  whole = sym (key_under-stem p key hp) ∙ ap (λ k. 47 ∷ k) e ∙ key_under-stem q name hq

  not_same : p ≡ q → ⊥
  not_same same =
      let P : List ℕ → Type 0 = λ r. chunk_key p keys chunk ≡ document_key r ZAttrs in
      chunk_key-no_own_document p keys chunk ZAttrs (subst P (sym same) e)

  not_above : is_under q p ≡ true → ⊥
  not_above u =
      let above = is_under-parts q p hq hp u in
      let f = sym (append_assoc (stem q) (47 ∷ above.0) (47 ∷ key)) ∙ ap (λ s. s ++ 47 ∷ key) (sym above.1) ∙ whole in
      let g = append_cancel_left (stem q) (47 ∷ (above.0 ++ 47 ∷ key)) (47 ∷ name) f in
      let same : above.0 ++ 47 ∷ key ≡ name = cc in
      false≢true (sym (ap has_slash same) ∙ slash_inside above.0 key)

  -- the attributes are those of a node under the array
  pub attributes_under : is_under p q ≡ true
  attributes_under = go (is_related p q) refl where
    go : (b : Bool) → is_related p q ≡ b → is_under p q ≡ true
    go false f = absurd (key_under-unrelated p q key name hp hq f e)
    go true t = ⊎_elim
        (λ first. ⊎_elim (λ same. absurd (not_same ((bytes_eq-Decides p q).0 same))) (λ under. under) (or_cases (bytes_eq p q) (is_under p q) first))
        (λ above. absurd (not_above above))
        (or_cases (bytes_eq p q || is_under p q) (is_under q p) t)

  -- what stands in the key behind the array's path, and before the name
  inside : (front : List ℕ) × (key ≡ front ++ 47 ∷ name)
  inside =
      let under = is_under-parts p q hp hq attributes_under in
      let f = whole ∙ ap (λ s. s ++ 47 ∷ name) under.1 ∙ append_assoc (stem p) (47 ∷ under.0) (47 ∷ name) in
      let g = append_cancel_left (stem p) (47 ∷ key) (47 ∷ (under.0 ++ 47 ∷ name)) f in
      (under.0, cc)

  -- so the suffix ends with a slash and the name
  pub no_other_attributes : EndsOtherwise keys → ⊥
  no_other_attributes ends = ends_so keys chunk inside.0 ends inside.1
