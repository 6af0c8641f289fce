-- What a reopening finds.
use Rattle.std.specs.Prelude.{◌≡◌, ◌⊎◌, ℕ, List, IsUtf8, IsSome, IsErr, Bool, MatchBool, true, if◌then◌else◌, Option, Some, None, Result, Ok, Err}
use Rattle.std.specs.FinMap.{get}
use Rattle.serde_json.specs.Data.{Data}
use Rattle.serde_json.specs.Read.{read}
use Rattle.serde_json.specs.View.{view}
use Rattle.zarr_grids_keys.specs.Documents.{document_key}
use Rattle.zarr_grids_keys.specs.declared.document_name.DocumentName.{DocumentName}
use Rattle.zarr_grids_keys.specs.declared.document_name.DocumentName.TheVariants.{ZarrJson, ZArray}
use Rattle.zarr_grids_metadata.specs.Trees.{SameTree}
use Rattle.zarr_codecs_metadata.specs.Chains.{ReadsCodecs}
use Rattle.zarr_codecs_options.specs.declared.subchunk_write_order.SubchunkWriteOrder.{SubchunkWriteOrder}
use Rattle.zarr_array_v2.specs.Versions.{is_version_2}
use Rattle.zarr_array_meaning.specs.Documents.{read_document}
use Rattle.zarr_array_meaning.specs.StoreMaps.{StoreMap}
use Rattle.zarr_array_meaning.specs.Texts.{HasTree, HasParts, HasDocument, version_key}
use Rattle.zarr_run_meaning.specs.declared.cause.Cause.{Cause}
use Rattle.zarr_run_meaning.specs.declared.cause.Cause.TheVariants as cause
use Rattle.zarr_run_opening.specs.Arrays.{IsReorderedAt}
use Rattle.zarr_run_opening.specs.ChunkKeys.{IsChunkKeyOf, HasNoneBeside, HasSomeBeside}
use Rattle.zarr_run_opening.specs.Creations.{IsOpened}
use Rattle.zarr_run_opening.specs.Sessions.{Arrays, Codecs, array_at}
use Rattle.zarr_run_opening.specs.declared.held.HeldArray.{HeldArray}
use Rattle.zarr_run_opening.specs.declared.stored.StoredDocument.{StoredDocument}
use Rattle.zarr_run_opening.specs.declared.stored.StoredDocument.TheVariants.{Nothing, NoDocument, Tree}

-- ---- what is stored

-- under a key stands a text that reads as no tree
pub record HasNoTree (key : List ℕ) (store : StoreMap) : Type 0 where
  pub text : List ℕ
  pub found : get store key ≡ Some text
  pub fails : IsUtf8 text → read text ≡ None

-- what stands under a key
abbrev pub IsTreeAt : List ℕ → StoreMap → StoredDocument → Type 0
IsTreeAt key store Nothing = get store key ≡ None
IsTreeAt key store NoDocument = HasNoTree key store
IsTreeAt key store (Tree tree) = HasTree key (view tree) store

-- the name by which a document of this version is found: of version 2, or else of version 3
abbrev pub version_name : Bool → DocumentName
version_name two = if two then ZArray else ZarrJson

-- what stands under the keys of a version is this tree, of whichever version that is
abbrev pub HasTreeUnder : Bool → List ℕ → Data → StoreMap → Type 0
HasTreeUnder two path tree store = MatchBool two (HasParts path tree store) (HasTree (document_key path ZarrJson) tree store)

-- what stands at a path under the keys of a version
abbrev pub IsTreeUnder : Bool → List ℕ → StoreMap → StoredDocument → Type 0
IsTreeUnder two path store Nothing = get store (document_key path (version_name two)) ≡ None
IsTreeUnder two path store NoDocument = IsSome (get store (document_key path (version_name two))) × ((tree : Data) → ¬ HasTreeUnder two path tree store)
IsTreeUnder two path store (Tree tree) = HasTreeUnder two path (view tree) store

-- a document of a version is stored at a path
pub record HasVersion (two : Bool) (path : List ℕ) (tree : Data) (store : StoreMap) : Type 0 where
  pub version : is_version_2 tree ≡ two
  pub stored : HasDocument path tree store

-- the document of a version that is stored at a path
abbrev pub IsVersionAt : Bool → List ℕ → StoreMap → StoredDocument → Type 0
IsVersionAt two path store Nothing = get store (document_key path (version_name two)) ≡ None
IsVersionAt two path store NoDocument = IsSome (get store (document_key path (version_name two))) × ((tree : Data) → ¬ HasVersion two path tree store)
IsVersionAt two path store (Tree tree) = HasVersion two path (view tree) store

-- the document of a version that is stored at a path, and nothing where its key is a chunk's
abbrev pub IsVersionBeside : (List ℕ → Type 0) → Bool → List ℕ → StoreMap → StoredDocument → Type 0
IsVersionBeside IsChunk two path store Nothing = HasNoneBeside IsChunk store (document_key path (version_name two))
IsVersionBeside IsChunk two path store NoDocument = HasSomeBeside IsChunk store (document_key path (version_name two)) × ((tree : Data) → ¬ HasVersion two path tree store)
IsVersionBeside IsChunk two path store (Tree tree) = HasVersion two path (view tree) store × (¬ IsChunk (document_key path (version_name two)))

-- a document is the one that a path has: it is stored there under no chunk's key; one of version 2 only where none of version 3 is stored
pub record IsFoundBeside (IsChunk : List ℕ → Type 0) (path : List ℕ) (tree : Data) (store : StoreMap) : Type 0 where
  pub stored : HasDocument path tree store
  pub other : ¬ IsChunk (version_key path tree)
  pub first : is_version_2 tree ≡ true → HasNoneBeside IsChunk store (document_key path ZarrJson)

-- something is stored under the key of a path's document, of version 3 or 2
abbrev pub HasSomeFound : (List ℕ → Type 0) → List ℕ → StoreMap → Type 0
HasSomeFound IsChunk path store = HasSomeBeside IsChunk store (document_key path ZarrJson) ⊎ HasSomeBeside IsChunk store (document_key path ZArray)

-- no document is stored at a path, of version 3 or 2
abbrev pub HasNoneFound : (List ℕ → Type 0) → List ℕ → StoreMap → Type 0
HasNoneFound IsChunk path store = HasNoneBeside IsChunk store (document_key path ZarrJson) × HasNoneBeside IsChunk store (document_key path ZArray)

-- the document that a path has
abbrev pub IsDocumentBeside : (List ℕ → Type 0) → List ℕ → StoreMap → StoredDocument → Type 0
IsDocumentBeside IsChunk path store Nothing = HasNoneFound IsChunk path store
IsDocumentBeside IsChunk path store NoDocument = HasSomeFound IsChunk path store × ((tree : Data) → ¬ IsFoundBeside IsChunk path tree store)
IsDocumentBeside IsChunk path store (Tree tree) = IsFoundBeside IsChunk path (view tree) store

-- ---- an array that is held

-- what is stored at a path is the document of an array
abbrev pub HasSameDocument : {B : Type 0} → List ℕ → HeldArray B → StoreMap → Type 0
HasSameDocument path array store = (tree : Data) × HasDocument path tree store × SameTree tree (view array.tree)

-- why an array that is held isn't reopened
abbrev pub ComparisonRefused : {B : Type 0} → List ℕ → HeldArray B → StoreMap → Cause → Type 0
ComparisonRefused path array store cause.DocumentChanged = (tree : Data) → HasDocument path tree store → ¬ SameTree tree (view array.tree)
ComparisonRefused path array store cause.Store = Unit {0}
ComparisonRefused path array store cause.Memory = Unit {0}
ComparisonRefused path array store c = ⊥

-- ---- an array that is not held

-- a reopening: its path and its order, and the arrays and what the store holds before it
pub record Reopening (B : Type 0) : Type 0 where
  pub path : List ℕ
  pub order : SubchunkWriteOrder
  pub arrays : Arrays B
  pub store : StoreMap

-- an array was opened from the document that its path has
pub record IsOpenedFrom {B : Type 0} (codecs : Codecs B) (given : Reopening B) (array : HeldArray B) : Type 0 where
  pub tree : Data
  pub found : IsFoundBeside (IsChunkKeyOf codecs.0 given.arrays) given.path tree given.store
  pub opened : IsOpened codecs given.path tree given.order array

-- something is stored under the key of a path's document, and it is no document that opens
pub record HasBadBeside (IsChunk : List ℕ → Type 0) (reads : ReadsCodecs) (path : List ℕ) (store : StoreMap) : Type 0 where
  pub some : HasSomeFound IsChunk path store
  pub none : (tree : Data) → IsFoundBeside IsChunk path tree store → IsErr (read_document reads tree)

-- why what is stored isn't opened
abbrev pub OpeningRefused : (List ℕ → Type 0) → ReadsCodecs → List ℕ → StoreMap → Cause → Type 0
OpeningRefused IsChunk reads path store cause.NoArray = HasNoneFound IsChunk path store
OpeningRefused IsChunk reads path store cause.Document = HasBadBeside IsChunk reads path store
OpeningRefused IsChunk reads path store cause.Store = Unit {0}
OpeningRefused IsChunk reads path store cause.Memory = Unit {0}
OpeningRefused IsChunk reads path store c = ⊥

-- what a reopening of a node path answers where an array was held, or none, and the array that is held then
abbrev pub Reopened : {B : Type 0} → Codecs B → Reopening B → Option (HeldArray B) → Result (Unit {0}) Cause → Arrays B → Type 0
Reopened codecs given (Some array) (Ok x) new = HasSameDocument given.path array given.store × IsReorderedAt codecs.0 given.order array new given.path
Reopened codecs given (Some array) (Err c) new = ComparisonRefused given.path array given.store c
Reopened {B} codecs given None (Ok x) new = (array : HeldArray B) × (array_at new given.path ≡ Some array) × IsOpenedFrom codecs given array
Reopened codecs given None (Err c) new = OpeningRefused (IsChunkKeyOf codecs.0 given.arrays) codecs.1 given.path given.store c
