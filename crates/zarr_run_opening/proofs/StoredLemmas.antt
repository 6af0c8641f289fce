-- What is stored of documents.
use Rattle.std.proofs.Common.{◌≡◌, ◌≢◌, ◌∙◌, ℕ, List, refl, sym, ap, subst, Bool, true, false, Option, Some, None, option_map, IsSome, IsUtf8, ◌⊎◌, ⊎_elim}
use Rattle.std.specs.FinMap.{get}
use Rattle.std.proofs.lemmas.Option.{none-some, same_Some}
use Rattle.serde_json.specs.Data.{Data, object, Members}
use Rattle.serde_json.specs.Find.{as_object}
use Rattle.serde_json.specs.Read.{read}
use Rattle.serde_json.specs.View.{view}
use Rattle.serde_json.specs.declared.value.Value.{Value}
use Rattle.zarr_grids_keys.specs.Documents.{document_key}
use Rattle.zarr_grids_keys.specs.declared.document_name.DocumentName.TheVariants.{ZarrJson, ZArray, ZAttrs}
use Rattle.zarr_array_v2.specs.Attributes.{with_attributes}
use Rattle.zarr_array_v2.specs.Versions.{is_version_2}
use Rattle.zarr_array_meaning.specs.StoreMaps.{StoreMap}
use Rattle.zarr_array_meaning.specs.Texts.{HasTree, HasAttributes, HasParts}
use Rattle.zarr_array_meaning.proofs.Stored.{one_tree}
use Rattle.zarr_run_opening.specs.Reopenings.{HasNoTree, IsTreeAt, HasTreeUnder, IsTreeUnder, HasVersion, IsVersionAt, version_name}
use Rattle.zarr_run_opening.specs.declared.stored.StoredDocument.{StoredDocument}
use Rattle.zarr_run_opening.specs.declared.stored.StoredDocument.TheVariants.{Nothing, NoDocument, Tree}

pub some_is : {A : Type 0} (o : Option A) (a : A) → o ≡ Some a → IsSome o
some_is {A} o a e = let P : Option A → Type 0 = λ o. IsSome o in subst P (sym e) refl

object_same : (ms ns : Members) → object ms ≡ object ns → ms ≡ ns
object_same ms ns e = cc

-- ---- one key

-- a text that reads as no tree is that of no tree
pub no_tree : (key : List ℕ) (tree : Data) (store : StoreMap) → HasNoTree key store → HasTree key tree store → ⊥
no_tree key tree store n has =
    let same : has.text ≡ n.text = same_Some has.text n.text (sym has.found ∙ n.found) in
    let P : List ℕ → Type 0 = λ t. IsUtf8 t in
    none-some tree (sym (n.fails (subst P same has.utf8)) ∙ ap read (sym same) ∙ has.reads)

-- a value that reads as no object is that of no members
pub no_object : (key : List ℕ) (tree : Data) (members : Members) (store : StoreMap) → as_object tree ≡ None → HasTree key tree store → HasTree key (object members) store → ⊥
no_object key tree members store none has other = none-some members (sym none ∙ ap as_object (one_tree key tree (object members) store has other))

-- ---- the parts of a document of version 2

pub no_zarray : (path : List ℕ) (store : StoreMap) → HasNoTree (document_key path ZArray) store → IsTreeUnder true path store NoDocument
no_zarray path store n = (some_is (get store (document_key path ZArray)) n.text n.found, λ tree (parts : HasParts path tree store). no_tree (document_key path ZArray) (object parts.members) store n parts.zarray)

pub no_members : (path : List ℕ) (tree : Data) (store : StoreMap) → as_object tree ≡ None → HasTree (document_key path ZArray) tree store → IsTreeUnder true path store NoDocument
no_members path tree store none has = (some_is (get store (document_key path ZArray)) has.text has.found, λ other (parts : HasParts path other store). no_object (document_key path ZArray) tree parts.members store none has parts.zarray)

no_attributes_at : (path : List ℕ) (o : Option Data) (store : StoreMap) → HasNoTree (document_key path ZAttrs) store → HasAttributes path o store → ⊥
no_attributes_at path None store n has = none-some n.text (sym has ∙ n.found)
no_attributes_at path (Some d) store n has = no_tree (document_key path ZAttrs) d store n has

pub no_attributes : (path : List ℕ) (tree : Data) (store : StoreMap) → HasTree (document_key path ZArray) tree store → HasNoTree (document_key path ZAttrs) store → IsTreeUnder true path store NoDocument
no_attributes path tree store has n = (some_is (get store (document_key path ZArray)) has.text has.found, λ other (parts : HasParts path other store). no_attributes_at path parts.attributes store n parts.zattrs)

-- the attributes that what stands under `.zattrs` gives
abbrev pub Attributes : StoredDocument → Option Value → Type 0
Attributes found attributes = ((tree : Value) × (found ≡ Tree tree) × (attributes ≡ Some tree)) ⊎ ((found ≡ Nothing) × (attributes ≡ None))

attributes_stored : (path : List ℕ) (store : StoreMap) (found : StoredDocument) (attributes : Option Value) → IsTreeAt (document_key path ZAttrs) store found → Attributes found attributes → HasAttributes path (option_map view attributes) store
attributes_stored path store found attributes is are =
    let P : StoredDocument → Type 0 = λ (s : StoredDocument). IsTreeAt (document_key path ZAttrs) store s in
    let Q : Option Value → Type 0 = λ (o : Option Value). HasAttributes path (option_map view o) store in
    ⊎_elim (λ (t : (tree : Value) × (found ≡ Tree tree) × (attributes ≡ Some tree)). subst Q (sym t.2) (subst P t.1 is)) (λ (n : (found ≡ Nothing) × (attributes ≡ None)). subst Q (sym n.1) (subst P n.0 is)) are

-- members and attributes that are joined
pub parts_joined : (path : List ℕ) (members joined : Members) (store : StoreMap) (found : StoredDocument) (attributes : Option Value)
    → HasTree (document_key path ZArray) (object members) store → IsTreeAt (document_key path ZAttrs) store found → Attributes found attributes → joined ≡ with_attributes (option_map view attributes) members → HasParts path (object joined) store
parts_joined path members joined store found attributes zarray is are same = record { members = members; attributes = option_map view attributes; zarray = zarray; zattrs = attributes_stored path store found attributes is are; is = ap object same }

-- ---- one tree under the keys of a version

one_attributes : (path : List ℕ) (a b : Option Data) (store : StoreMap) → HasAttributes path a store → HasAttributes path b store → a ≡ b
one_attributes path None None store has other = refl
one_attributes path None (Some b) store has other = absurd (none-some other.text (sym has ∙ other.found))
one_attributes path (Some a) None store has other = absurd (none-some has.text (sym other ∙ has.found))
one_attributes path (Some a) (Some b) store has other = ap Some (one_tree (document_key path ZAttrs) a b store has other)

one_parts : (path : List ℕ) (a b : Data) (store : StoreMap) → HasParts path a store → HasParts path b store → a ≡ b
one_parts path a b store has other =
    let members = object_same has.members other.members (one_tree (document_key path ZArray) (object has.members) (object other.members) store has.zarray other.zarray) in
    let attributes = one_attributes path has.attributes other.attributes store has.zattrs other.zattrs in
    has.is ∙ ap (λ m. object (with_attributes has.attributes m)) members ∙ ap (λ o. object (with_attributes o other.members)) attributes ∙ sym other.is

pub one_under : (two : Bool) (path : List ℕ) (a b : Data) (store : StoreMap) → HasTreeUnder two path a store → HasTreeUnder two path b store → a ≡ b
one_under true path a b store has other = one_parts path a b store has other
one_under false path a b store has other = one_tree (document_key path ZarrJson) a b store has other

-- something stands under the key of a document that is stored
pub some_under : (two : Bool) (path : List ℕ) (tree : Data) (store : StoreMap) → HasTreeUnder two path tree store → IsSome (get store (document_key path (version_name two)))
some_under true path tree store has = some_is (get store (document_key path ZArray)) has.zarray.text has.zarray.found
some_under false path tree store has = some_is (get store (document_key path ZarrJson)) has.text has.found

-- ---- the document of a version

pub under_version : (two : Bool) (path : List ℕ) (tree : Data) (store : StoreMap) → HasVersion two path tree store → HasTreeUnder two path tree store
under_version two path tree store h = let P : Bool → Type 0 = λ b. HasTreeUnder b path tree store in subst P h.version h.stored

pub version_under : (two : Bool) (path : List ℕ) (tree : Data) (store : StoreMap) → is_version_2 tree ≡ two → HasTreeUnder two path tree store → HasVersion two path tree store
version_under two path tree store version has = let P : Bool → Type 0 = λ b. HasTreeUnder b path tree store in record { version = version; stored = subst P (sym version) has }

-- a tree of the other version is no document
pub other_version : (two : Bool) (path : List ℕ) (tree : Data) (store : StoreMap) → is_version_2 tree ≢ two → HasTreeUnder two path tree store → IsVersionAt two path store NoDocument
other_version two path tree store other has = (some_under two path tree store has, λ that h. other (ap is_version_2 (one_under two path tree that store has (under_version two path that store h)) ∙ h.version))

pub no_version : (two : Bool) (path : List ℕ) (store : StoreMap) → IsTreeUnder two path store NoDocument → IsVersionAt two path store NoDocument
no_version two path store n = (n.0, λ tree h. n.1 tree (under_version two path tree store h))
