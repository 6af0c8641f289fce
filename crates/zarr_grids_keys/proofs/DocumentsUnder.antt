-- The key of a chunk that is the key of a document.
use Rattle.std.proofs.Common.{◌≡◌, ◌∙◌, ℕ, Bool, true, false, ◌||◌, ◌==◌, List, [], ◌∷◌, ◌++◌, bytes_eq, refl, sym, ap, subst, IsTrue, append_assoc, ◌⊎◌, inl, inr}
use Rattle.std.specs.List.{list_any}
use Rattle.std.proofs.lemmas.Bool.{false≢true}
use Rattle.std.proofs.lemmas.List.{append_cancel_left}
use Rattle.std.proofs.lemmas.Slice.Eq.{bytes_eq-Decides}
use Rattle.zarr_grids_keys.specs.declared.document_name.DocumentName.{DocumentName}
use Rattle.zarr_grids_keys.specs.declared.document_name.DocumentName.TheVariants.{ZarrJson, ZArray, ZAttrs}
use Rattle.zarr_grids_keys.specs.Documents.{document_name, document_key}
use Rattle.zarr_grids_keys.specs.Keys.{KeyEncoding, encoded_key, chunk_key, has_separator, has_flat_suffix}
use Rattle.zarr_grids_keys.specs.Paths.{is_node_path}
use Rattle.zarr_grids_keys.specs.Related.{is_under, is_related}
use Rattle.zarr_grids_keys.proofs.HeadLemmas.{chunk_key-no_document, chunk_key-no_own_document}
use Rattle.zarr_grids_keys.proofs.RelatedLemmas.{stem, is_under-parts, key_under-stem, key_under-unrelated}

-- ---- names have no slash
abbrev pub has_slash : List ℕ → Bool
has_slash text = list_any (λ byte. byte == 47) text

no_slash : (name : DocumentName) → has_slash (document_name name) ≡ false
no_slash ZarrJson = refl
no_slash ZArray = refl
no_slash ZAttrs = refl

slash_inside : (xs ys : List ℕ) → has_slash (xs ++ 47 ∷ ys) ≡ true
slash_inside [] ys = refl
slash_inside (x ∷ xs) ys = ap (λ b. x == 47 || b) (slash_inside xs ys) ∙ or_true (x == 47) where
  or_true : (b : Bool) → (b || true) ≡ true
  or_true true = refl
  or_true false = refl

-- ---- so no chunk's key is that of a document of a node above its array
no_higher_document : (p q : List ℕ) (keys : KeyEncoding) (chunk : List ℕ) (name : DocumentName) → IsTrue (is_node_path p) → IsTrue (is_node_path q) → is_under q p ≡ true → chunk_key p keys chunk ≡ document_key q name → ⊥
no_higher_document p q keys chunk name hp hq u e =
    let key = encoded_key keys chunk in
    let inside = is_under-parts q p hq hp u in
    let f = sym (key_under-stem p key hp) ∙ ap (λ k. 47 ∷ k) e ∙ key_under-stem q (document_name name) hq in
    let g = sym (append_assoc (stem q) (47 ∷ inside.0) (47 ∷ key)) ∙ ap (λ s. s ++ 47 ∷ key) (sym inside.1) ∙ f in
    let h = append_cancel_left (stem q) (47 ∷ (inside.0 ++ 47 ∷ key)) (47 ∷ document_name name) g in
    let same : inside.0 ++ 47 ∷ key ≡ document_name name = cc in
    false≢true (sym (no_slash name) ∙ ap has_slash (sym same) ∙ slash_inside inside.0 key)

three : (a b c : Bool) → (a || b || c) ≡ true → (a ≡ true) ⊎ ((b ≡ true) ⊎ (c ≡ true))
three true b c h = inl refl
three false true c h = inr (inl refl)
three false false true h = inr (inr refl)
three false false false h = absurd (false≢true h)

-- a chunk's key that is the key of a document has a suffix with a slash, and the node of the document is under the array
pub chunk_key-document_under : (p q : List ℕ) (keys : KeyEncoding) (chunk : List ℕ) (name : DocumentName) → IsTrue (is_node_path p) → IsTrue (is_node_path q) → IsTrue (has_separator keys) → chunk_key p keys chunk ≡ document_key q name
    → (is_under p q ≡ true) × (has_flat_suffix keys ≡ false)
chunk_key-document_under p q keys chunk name hp hq s e = (under (is_related p q) refl, slashed (has_flat_suffix keys) refl) where
  slashed : (b : Bool) → has_flat_suffix keys ≡ b → has_flat_suffix keys ≡ false
  slashed false t = t
  slashed true t = absurd (chunk_key-no_document p q keys chunk name t s e)

  related : (bytes_eq p q ≡ true) ⊎ ((is_under p q ≡ true) ⊎ (is_under q p ≡ true)) → is_under p q ≡ true
  related (inl t) = let P : List ℕ → Type 0 = λ r. chunk_key p keys chunk ≡ document_key r name in absurd (chunk_key-no_own_document p keys chunk name (subst P (sym ((bytes_eq-Decides p q).0 t)) e))
  related (inr (inl t)) = t
  related (inr (inr t)) = absurd (no_higher_document p q keys chunk name hp hq t e)

  under : (b : Bool) → is_related p q ≡ b → is_under p q ≡ true
  under true t = related (three (bytes_eq p q) (is_under p q) (is_under q p) t)
  under false t = absurd (key_under-unrelated p q (encoded_key keys chunk) (document_name name) hp hq t e)
