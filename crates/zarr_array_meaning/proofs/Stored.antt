-- What is stored of documents reads back, and over one store a path has no two documents of one version.
use Rattle.std.proofs.Common.{◌≡◌, ◌≢◌, ℕ, List, bytes_eq, cond, Bool, true, false, Option, Some, None, MatchBool, subst, refl, sym, ap, ◌∙◌}
use Rattle.std.specs.FinMap.{get, insert, get-insert}
use Rattle.std.proofs.lemmas.Bool.{both_ways, cond-true, cond-false, false_from_ne_true}
use Rattle.std.proofs.lemmas.Cmp.{nat_list_cmp_total}
use Rattle.std.proofs.lemmas.Map.Text.{is_eq-slice_cmp}
use Rattle.std.proofs.lemmas.Slice.Eq.{bytes_eq-Decides}
use Rattle.serde_json.specs.Data.{Data, object, Members}
use Rattle.serde_json.specs.Read.{read}
use Rattle.zarr_grids_keys.specs.Documents.{document_name, document_key}
use Rattle.zarr_grids_keys.specs.declared.document_name.DocumentName.{DocumentName}
use Rattle.zarr_grids_keys.specs.declared.document_name.DocumentName.TheVariants.{ZarrJson, ZArray, ZAttrs}
use Rattle.zarr_grids_keys.proofs.KeyLemmas.{key_under-injective}
use Rattle.zarr_array_v2.specs.Attributes.{attributes_of, without_attributes, with_attributes, joined}
use Rattle.zarr_array_v2.specs.Versions.{is_version_2}
use Rattle.zarr_array_meaning.specs.StoreMaps.{StoreMap}
use Rattle.zarr_array_meaning.specs.Texts.{HasTree, HasAttributes, HasParts, HasDocument, StoresTree, StoresParts, StoresDocument}
use Rattle.zarr_array_meaning.specs.Written.{written_document}
use Rattle.zarr_array_meaning.proofs.WrittenVersions.{joined_again}

-- ---- what two equal options or objects hold

some_injective : {A : Type 0} {a b : A} → Some a ≡ Some b → a ≡ b
some_injective e = cc

none_is_some : {A : Type 0} {a : A} → None ≡ Some a → ⊥
none_is_some e = absurd (cc)

object_injective : {ms ns : Members} → object ms ≡ object ns → ms ≡ ns
object_injective e = cc

-- ---- one key put

get-put : (m : StoreMap) (k v q : List ℕ) → get (insert m k v) q ≡ cond (bytes_eq q k) (Some v) (get m q)
get-put m k v q = get-insert nat_list_cmp_total m k v q ∙ ap (λ b. cond b (Some v) (get m q)) (is_eq-slice_cmp q k)

-- what was put at a key stands there
pub put_here : (m : StoreMap) (k v : List ℕ) → get (insert m k v) k ≡ Some v
put_here m k v = get-put m k v k ∙ cond-true (bytes_eq k k) (Some v) (get m k) ((bytes_eq-Decides k k).1 refl)

-- every other key is as before
pub put_other : (m : StoreMap) (k v q : List ℕ) → q ≢ k → get (insert m k v) q ≡ get m q
put_other m k v q ne = get-put m k v q ∙ cond-false (bytes_eq q k) (Some v) (get m q) (false_from_ne_true (bytes_eq q k) (λ t. ne ((bytes_eq-Decides q k).0 t)))

-- ---- the keys of a path's documents

name_apart : (a b : DocumentName) → bytes_eq (document_name a) (document_name b) ≡ false → document_name a ≢ document_name b
name_apart a b apart e = both_ways (bytes_eq (document_name a) (document_name b)) apart ((bytes_eq-Decides (document_name a) (document_name b)).1 e)

-- documents of one path with other names have other keys
pub keys_apart : (path : List ℕ) (a b : DocumentName) → bytes_eq (document_name a) (document_name b) ≡ false → document_key path a ≢ document_key path b
keys_apart path a b apart e = name_apart a b apart (key_under-injective path (document_name a) (document_name b) e)

-- ---- what is stored reads back

-- a tree whose text was stored
pub tree_stored : (key : List ℕ) (tree : Data) (old new : StoreMap) → StoresTree key tree old new → HasTree key tree new
tree_stored key tree old new stores =
    record { text = stores.text; found = ap (λ (m : StoreMap). get m key) stores.stores ∙ put_here old key stores.text; utf8 = stores.writes.utf8; reads = stores.writes.reads }

-- a text under another key stays
pub tree_kept : (key other : List ℕ) (tree that : Data) (old new : StoreMap) → other ≢ key → StoresTree key tree old new → HasTree other that old → HasTree other that new
tree_kept key other tree that old new apart stores has =
    record { text = has.text; found = ap (λ (m : StoreMap). get m other) stores.stores ∙ put_other old key stores.text other apart ∙ has.found; utf8 = has.utf8; reads = has.reads }

-- the parts of a document that is the same once it is joined again
pub parts_stored : (path : List ℕ) (tree : Data) (old new : StoreMap) (stores : StoresParts path tree old new) → joined stores.members (attributes_of stores.members) ≡ stores.members → HasParts path tree new
parts_stored path tree old new stores again = record {
  members = without_attributes stores.members;
  attributes = Some (attributes_of stores.members);
  zarray = tree_stored (document_key path ZArray) (object (without_attributes stores.members)) stores.between new stores.zarray;
  zattrs = tree_kept (document_key path ZArray) (document_key path ZAttrs) (object (without_attributes stores.members)) (attributes_of stores.members) stores.between new
      (keys_apart path ZAttrs ZArray refl) stores.zarray (tree_stored (document_key path ZAttrs) (attributes_of stores.members) old stores.between stores.attributes);
  is = stores.is ∙ ap object (sym again);
}

stored_at : (path : List ℕ) (d : Data) (old new : StoreMap) (b : Bool) → is_version_2 (written_document d) ≡ b
    → MatchBool b (StoresParts path (written_document d) old new) (StoresTree (document_key path ZarrJson) (written_document d) old new)
    → MatchBool b (HasParts path (written_document d) new) (HasTree (document_key path ZarrJson) (written_document d) new)
stored_at path d old new true version stores = parts_stored path (written_document d) old new stores (joined_again d stores.members version stores.is)
stored_at path d old new false version stores = tree_stored (document_key path ZarrJson) (written_document d) old new stores

-- a written document that was stored at a path is the one that the path has
pub stored_reads_back : (path : List ℕ) (d : Data) (old new : StoreMap) → StoresDocument path (written_document d) old new → HasDocument path (written_document d) new
stored_reads_back path d old new stores = stored_at path d old new (is_version_2 (written_document d)) refl stores

-- ---- one document of one version

-- a key has one tree
pub one_tree : (key : List ℕ) (a b : Data) (store : StoreMap) → HasTree key a store → HasTree key b store → a ≡ b
one_tree key a b store has other =
    let same : has.text ≡ other.text = some_injective (sym has.found ∙ other.found) in
    some_injective (sym has.reads ∙ ap read same ∙ other.reads)

-- a path has one part for attributes
one_attributes : (path : List ℕ) (a b : Option Data) (store : StoreMap) → HasAttributes path a store → HasAttributes path b store → a ≡ b
one_attributes path None None store has other = refl
one_attributes path None (Some b) store has other = absurd (none_is_some (sym has ∙ other.found))
one_attributes path (Some a) None store has other = absurd (none_is_some (sym other ∙ has.found))
one_attributes path (Some a) (Some b) store has other = ap Some (one_tree (document_key path ZAttrs) a b store has other)

one_parts : (path : List ℕ) (a b : Data) (store : StoreMap) → HasParts path a store → HasParts path b store → a ≡ b
one_parts path a b store has other =
    let members : has.members ≡ other.members = object_injective (one_tree (document_key path ZArray) (object has.members) (object other.members) store has.zarray other.zarray) in
    let attributes : has.attributes ≡ other.attributes = one_attributes path has.attributes other.attributes store has.zattrs other.zattrs in
    has.is ∙ ap (λ m. object (with_attributes has.attributes m)) members ∙ ap (λ o. object (with_attributes o other.members)) attributes ∙ sym other.is

one_at : (path : List ℕ) (a b : Data) (store : StoreMap) (v : Bool) → MatchBool v (HasParts path a store) (HasTree (document_key path ZarrJson) a store) → MatchBool v (HasParts path b store) (HasTree (document_key path ZarrJson) b store) → a ≡ b
one_at path a b store true has other = one_parts path a b store has other
one_at path a b store false has other = one_tree (document_key path ZarrJson) a b store has other

-- two documents of one version that a path has over one store are one
pub one_document : (path : List ℕ) (a b : Data) (store : StoreMap) → is_version_2 a ≡ is_version_2 b → HasDocument path a store → HasDocument path b store → a ≡ b
one_document path a b store version has other =
    one_at path a b store (is_version_2 a) has (subst (λ (v : Bool). MatchBool v (HasParts path b store) (HasTree (document_key path ZarrJson) b store)) (sym version) other)
