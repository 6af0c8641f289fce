-- What storing a document changes, which keys it leaves, and by which keys a document is found.
use Rattle.std.proofs.Common.{◌≡◌, ◌≢◌, ◌∙◌, ◌⊎◌, inl, inr, ⊎_elim, ℕ, Bool, true, false, if◌then◌else◌, List, refl, sym, ap, Option, Some, None, IsTrue, bytes_eq}
use Rattle.std.specs.Prelude.{MatchBool}
use Rattle.std.specs.FinMap.{get}
use Rattle.std.proofs.lemmas.Bool.{false≢true}
use Rattle.std.proofs.lemmas.Slice.Eq.{bytes_eq-Decides}
use Rattle.serde_json.specs.Data.{Data, object}
use Rattle.zarr_grids_chunks.proofs.Filters.{told}
use Rattle.zarr_grids_keys.specs.Documents.{document_key, document_name}
use Rattle.zarr_grids_keys.specs.Keys.{chunk_key, key_under}
use Rattle.zarr_grids_keys.specs.Paths.{is_node_path}
use Rattle.zarr_grids_keys.specs.Related.{is_related}
use Rattle.zarr_grids_keys.specs.declared.document_name.DocumentName.{DocumentName}
use Rattle.zarr_grids_keys.specs.declared.document_name.DocumentName.TheVariants.{ZarrJson, ZArray, ZAttrs}
use Rattle.zarr_grids_keys.proofs.HeadLemmas.{chunk_key-no_own_document}
use Rattle.zarr_grids_keys.proofs.RelatedLemmas.{key_under-unrelated}
use Rattle.zarr_array_v2.specs.Attributes.{attributes_of, without_attributes}
use Rattle.zarr_array_v2.specs.Versions.{is_version_2}
use Rattle.zarr_array_meaning.specs.Chunks.{stored_at}
use Rattle.zarr_array_meaning.specs.Documents.{Document}
use Rattle.zarr_array_meaning.specs.StoreMaps.{StoreMap}
use Rattle.zarr_array_meaning.specs.Texts.{HasTree, HasAttributes, HasParts, HasDocument, version_key, StoresTree, StoresParts, StoresDocument}
use Rattle.zarr_array_meaning.proofs.Stored.{keys_apart, put_other}
use Rattle.zarr_run_meaning.proofs.Keys.{KeepsUnder}

-- ---- which document is found

-- the keys of a path's documents have the values that they had
abbrev pub KeepsDocuments : List ℕ → StoreMap → StoreMap → Type 0
KeepsDocuments path old new = (name : DocumentName) → get new (document_key path name) ≡ get old (document_key path name)

same_tree : (key : List ℕ) (tree : Data) (old new : StoreMap) → get new key ≡ get old key → HasTree key tree old → HasTree key tree new
same_tree key tree old new same h = record { text = h.text; found = same ∙ h.found; utf8 = h.utf8; reads = h.reads }

same_attributes : (path : List ℕ) (attributes : Option Data) (old new : StoreMap) → KeepsDocuments path old new → HasAttributes path attributes old → HasAttributes path attributes new
same_attributes path None old new same none = same ZAttrs ∙ none
same_attributes path (Some attributes) old new same h = same_tree (document_key path ZAttrs) attributes old new (same ZAttrs) h

-- so the document stays
pub document_stays : (path : List ℕ) (tree : Data) (old new : StoreMap) → KeepsDocuments path old new → HasDocument path tree old → HasDocument path tree new
document_stays path tree old new same = go (is_version_2 tree) where
  go : (b : Bool) → MatchBool b (HasParts path tree old) (HasTree (document_key path ZarrJson) tree old) → MatchBool b (HasParts path tree new) (HasTree (document_key path ZarrJson) tree new)
  go true parts = record {
    members = parts.members;
    attributes = parts.attributes;
    zarray = same_tree (document_key path ZArray) (object parts.members) old new (same ZArray) parts.zarray;
    zattrs = same_attributes path parts.attributes old new same parts.zattrs;
    is = parts.is;
  }
  go false whole = same_tree (document_key path ZarrJson) tree old new (same ZarrJson) whole

-- what keeps all under a path keeps its documents
pub under_documents : (path : List ℕ) (old new : StoreMap) → KeepsUnder path old new → KeepsDocuments path old new
under_documents path old new same name = same.under (document_name name)

-- a text stands under the key of the document's version
pub stored_text : (path : List ℕ) (tree : Data) (store : StoreMap) → HasDocument path tree store → (text : List ℕ) × (get store (version_key path tree) ≡ Some text)
stored_text path tree store = go (is_version_2 tree) where
  go : (b : Bool) → MatchBool b (HasParts path tree store) (HasTree (document_key path ZarrJson) tree store) → (text : List ℕ) × (get store (document_key path (if b then ZArray else ZarrJson)) ≡ Some text)
  go true parts = (parts.zarray.text, parts.zarray.found)
  go false whole = (whole.text, whole.found)

-- ---- which keys are changed

tree_keys : (at : List ℕ) (tree : Data) (old new : StoreMap) → StoresTree at tree old new → (key : List ℕ) → (key ≡ at) ⊎ (get new key ≡ get old key)
tree_keys at tree old new s key = ⊎_elim
    (λ t. inl ((bytes_eq-Decides key at).0 t))
    (λ f. inr (ap (λ m. get m key) s.stores ∙ put_other old at s.text key (λ same. false≢true (sym f ∙ (bytes_eq-Decides key at).1 same))))
    (told (bytes_eq key at))

-- each key is that of the document, or of its attributes, or keeps its value
pub document_keys : (path : List ℕ) (tree : Data) (old new : StoreMap) → StoresDocument path tree old new → (key : List ℕ) → (key ≡ version_key path tree) ⊎ ((key ≡ document_key path ZAttrs) ⊎ (get new key ≡ get old key))
document_keys path tree old new stores key = go (is_version_2 tree) stores where
  go : (b : Bool) → MatchBool b (StoresParts path tree old new) (StoresTree (document_key path ZarrJson) tree old new)
      → (key ≡ document_key path (if b then ZArray else ZarrJson)) ⊎ ((key ≡ document_key path ZAttrs) ⊎ (get new key ≡ get old key))
  go true s = ⊎_elim inl
      (λ last. ⊎_elim (λ at. inr (inl at)) (λ first. inr (inr (last ∙ first))) (tree_keys (document_key path ZAttrs) (attributes_of s.members) old s.between s.attributes key))
      (tree_keys (document_key path ZArray) (object (without_attributes s.members)) s.between new s.zarray key)
  go false s = ⊎_elim inl (λ same. inr (inr same)) (tree_keys (document_key path ZarrJson) tree old new s key)

-- no key but those of a path's documents was changed
pub record PutsDocuments (path : List ℕ) (old new : StoreMap) : Type 0 where
  pub others : (key : List ℕ) → ((name : DocumentName) → key ≢ document_key path name) → get new key ≡ get old key

pub document_put : (path : List ℕ) (tree : Data) (old new : StoreMap) → StoresDocument path tree old new → PutsDocuments path old new
document_put path tree old new stores = record {
  others = λ key other. ⊎_elim (λ at. absurd (other _ at)) (λ more. ⊎_elim (λ at. absurd (other ZAttrs at)) (λ same. same) more) (document_keys path tree old new stores key);
}

-- the attributes of a path alone
pub attributes_keys : (path : List ℕ) (tree : Data) (old new : StoreMap) → StoresTree (document_key path ZAttrs) tree old new → (key : List ℕ) → (key ≡ document_key path ZAttrs) ⊎ (get new key ≡ get old key)
attributes_keys path tree old new s key = tree_keys (document_key path ZAttrs) tree old new s key

pub attributes_put : (path : List ℕ) (tree : Data) (old new : StoreMap) → StoresTree (document_key path ZAttrs) tree old new → PutsDocuments path old new
attributes_put path tree old new s = record { others = λ key other. ⊎_elim (λ at. absurd (other ZAttrs at)) (λ same. same) (attributes_keys path tree old new s key) }

-- documents that are put leave what is stored under an unrelated path
pub put_kept : (path other : List ℕ) (old new : StoreMap) → PutsDocuments path old new → IsTrue (is_node_path path) → IsTrue (is_node_path other) → is_related path other ≡ false → KeepsUnder other old new
put_kept path other old new put node there apart = record {
  under = λ name. put.others (key_under other name) (λ document e. key_under-unrelated path other (document_name document) name node there apart (sym e));
}

-- and the chunks of their array
pub put_chunk : (path : List ℕ) (document : Document) (old new : StoreMap) → PutsDocuments path old new → (chunk : List ℕ) → stored_at path document new chunk ≡ stored_at path document old chunk
put_chunk path document old new put chunk = put.others (chunk_key path document.keys chunk) (λ name e. chunk_key-no_own_document path document.keys chunk name e)

-- where a document of version 2 is stored, one of version 3 stays as it was
pub json_stays : (path : List ℕ) (tree : Data) (old new : StoreMap) → StoresDocument path tree old new → is_version_2 tree ≡ true → get new (document_key path ZarrJson) ≡ get old (document_key path ZarrJson)
json_stays path tree old new stores older = ⊎_elim
    (λ at. absurd (keys_apart path ZarrJson ZArray refl (at ∙ ap (λ (b : Bool). document_key path (if b then ZArray else ZarrJson)) older)))
    (λ more. ⊎_elim (λ at. absurd (keys_apart path ZarrJson ZAttrs refl at)) (λ same. same) more)
    (document_keys path tree old new stores (document_key path ZarrJson))
