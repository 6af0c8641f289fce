-- What a create finds and leaves.
use Rattle.std.specs.Prelude.{◌≡◌, ◌⊎◌, ℕ, List, IsTrue, IsErr, Some, Ok, Err, Result, true, false, if◌then◌else◌, string_bytes}
use Rattle.std.specs.FinMap.{insert}
use Rattle.serde_json.specs.Data.{Data, object, Members}
use Rattle.serde_json.specs.View.{view}
use Rattle.zarr_grids_keys.specs.Documents.{document_key}
use Rattle.zarr_grids_keys.specs.Paths.{is_node_path}
use Rattle.zarr_grids_keys.specs.declared.document_name.DocumentName.TheVariants.{ZarrJson, ZArray, ZAttrs}
use Rattle.zarr_codecs_metadata.specs.Chains.{ReadsCodecs}
use Rattle.zarr_codecs_options.specs.declared.subchunk_write_order.SubchunkWriteOrder.{SubchunkWriteOrder}
use Rattle.zarr_array_v2.specs.Attributes.{attributes_of, without_attributes}
use Rattle.zarr_array_v2.specs.Versions.{is_version_2}
use Rattle.zarr_array_core.specs.Views.{path_of}
use Rattle.zarr_array_meaning.specs.Documents.{read_document}
use Rattle.zarr_array_meaning.specs.StoreMaps.{StoreMap}
use Rattle.zarr_array_meaning.specs.Texts.{IsTextOf, HasNoDocument}
use Rattle.zarr_array_meaning.specs.Written.{written_document}
use Rattle.zarr_run_meaning.specs.Causes.{HasSomeDocument}
use Rattle.zarr_run_meaning.specs.declared.cause.Cause.{Cause}
use Rattle.zarr_run_meaning.specs.declared.cause.Cause.TheVariants as cause
use Rattle.zarr_run_opening.specs.Arrays.{IsTakenIn, IsFreeIn, KeepsOtherArrays}
use Rattle.zarr_run_opening.specs.Sessions.{Arrays, Codecs, State, array_at, document_of, FollowsOrder}
use Rattle.zarr_run_opening.specs.declared.creating.Prepared.{Prepared}
use Rattle.zarr_run_opening.specs.declared.creating.WrittenDocument.{WrittenDocument}
use Rattle.zarr_run_opening.specs.declared.held.HeldArray.{HeldArray}
use Rattle.zarr_run_opening.specs.declared.texts.KeyedText.{KeyedText}
use Rattle.zarr_run_opening.specs.declared.texts.Texts.{Texts}
use Rattle.zarr_run_opening.specs.declared.texts.Texts.TheVariants.{Whole, Parts}

-- ---- the texts of a document

-- the text of a tree, which is to be stored under a key
pub record IsKeyedText (key : List ℕ) (tree : Data) (text : KeyedText) : Type 0 where
  pub key_is : text.key ≡ key
  pub is : IsTextOf tree text.text.items

-- the texts of the parts of a document of version 2: the attributes under `.zattrs`, and all else under `.zarray`
pub record ArePartsOf (path : List ℕ) (tree : Data) (attributes rest : KeyedText) : Type 0 where
  pub members : Members
  pub is : tree ≡ object members
  pub zattrs : IsKeyedText (document_key path ZAttrs) (attributes_of members) attributes
  pub zarray : IsKeyedText (document_key path ZArray) (object (without_attributes members)) rest

-- the texts of a document: of version 3 one, and of version 2 those of its parts
abbrev pub AreTextsOf : List ℕ → Data → Texts → Type 0
AreTextsOf path tree (Whole text) = (is_version_2 tree ≡ false) × IsKeyedText (document_key path ZarrJson) tree text
AreTextsOf path tree (Parts attributes rest) = (is_version_2 tree ≡ true) × ArePartsOf path tree attributes rest

-- a store with a text under its key
abbrev pub with_text : KeyedText → StoreMap → StoreMap
with_text text store = insert store text.key text.text.items

-- a store with all of these texts, each under its key
abbrev pub with_texts : Texts → StoreMap → StoreMap
with_texts (Whole text) store = with_text text store
with_texts (Parts attributes rest) store = with_text rest (with_text attributes store)

-- a store with all of these texts but the last
abbrev pub with_first : Texts → StoreMap → StoreMap
with_first (Whole text) store = store
with_first (Parts attributes rest) store = with_text attributes store

-- what is stored where texts were refused: none of them, or all but the last
abbrev pub StoredFirst : Texts → StoreMap → StoreMap → Type 0
StoredFirst texts old new = (new ≡ old) ⊎ (new ≡ with_first texts old)

-- how many writing calls were accepted at most where a document of version 2 was refused with this cause
abbrev pub most_left : Cause → ℕ
most_left cause.Store = 1
most_left cause.Memory = 1
most_left cause.Damage = 1
most_left c = 0

-- how many writing calls that store texts are accepted at most, by their result
abbrev pub most_calls : Texts → Result (Unit {0}) Cause → ℕ
most_calls (Whole text) (Ok x) = 1
most_calls (Whole text) (Err c) = 0
most_calls (Parts attributes rest) (Ok x) = 2
most_calls (Parts attributes rest) (Err c) = most_left c

-- how many writing calls of a create are accepted at most, by its result, whatever the store
abbrev pub most_created : Data → Result (Unit {0}) Cause → ℕ
most_created document (Ok x) = if is_version_2 document then 2 else 1
most_created document (Err c) = if is_version_2 document then most_left c else 0

-- ---- a new array

-- an array stands at a path, says what the tree of its document says, and has a write order, which its codecs follow
pub record IsOpened {B : Type 0} (codecs : Codecs B) (path : List ℕ) (tree : Data) (order : SubchunkWriteOrder) (array : HeldArray B) : Type 0 where
  pub at : path_of array.core ≡ path
  pub tree_is : view array.tree ≡ tree
  pub order_is : array.order ≡ order
  pub says : read_document codecs.1 tree ≡ Ok (document_of codecs.0 array)
  pub exact : FollowsOrder codecs.0 order array.core

-- a new array at a path, and the texts of the document that is written
pub record IsPrepared {B : Type 0} (codecs : Codecs B) (path : List ℕ) (tree : Data) (order : SubchunkWriteOrder) (prepared : Prepared B) : Type 0 where
  pub at : string_bytes prepared.at ≡ path
  pub texts : AreTextsOf path (written_document tree) prepared.texts
  pub opens : read_document codecs.1 tree ≡ Ok (document_of codecs.0 prepared.array)
  pub opened : IsOpened codecs path (written_document tree) order prepared.array

-- the document that is written for a new array at a path, and its texts
pub record IsWritten (path : List ℕ) (tree : Data) (written : WrittenDocument) : Type 0 where
  pub at : string_bytes written.at ≡ path
  pub tree_is : view written.tree ≡ written_document tree
  pub texts : AreTextsOf path (written_document tree) written.texts

-- why no new array is prepared
abbrev pub PreparationRefused : {B : Type 0} → ReadsCodecs → Arrays B → List ℕ → Data → Cause → Type 0
PreparationRefused reads arrays path tree cause.Path = is_node_path path ≡ false
PreparationRefused reads arrays path tree cause.PathTaken = IsTrue (is_node_path path) × IsTakenIn arrays path
PreparationRefused reads arrays path tree cause.Document = IsTrue (is_node_path path) × IsFreeIn arrays path × IsErr (read_document reads tree)
PreparationRefused reads arrays path tree cause.Memory = Unit {0}
PreparationRefused reads arrays path tree c = ⊥

-- the new array is held, and its document is stored where none was
pub record IsStored {B : Type 0} (path : List ℕ) (prepared : Prepared B) (old new : State B) : Type 0 where
  pub fresh : HasNoDocument path old.1.0
  pub held : array_at new.0 path ≡ Some prepared.array
  pub others : KeepsOtherArrays path old.0 new.0
  pub writes : new.1.0 ≡ with_texts prepared.texts old.1.0

-- what the store holds where it refused a document: the same, or all but the last of its texts, where no document was stored
abbrev pub LeavesFirst : List ℕ → Texts → StoreMap → StoreMap → Type 0
LeavesFirst path texts old new = (new ≡ old) ⊎ (HasNoDocument path old × (new ≡ with_first texts old))

-- why a new array is not stored
abbrev pub StoringRefused : List ℕ → StoreMap → Cause → Type 0
StoringRefused path store cause.PathTaken = HasSomeDocument path store
StoringRefused path store cause.Store = Unit {0}
StoringRefused path store cause.Memory = Unit {0}
StoringRefused path store c = ⊥
