-- Which document of a path is read, and which are erased.
use Rattle.std.specs.Prelude.{◌≡◌, ℕ, List, [], ◌∷◌, ◌++◌, map, Bool, true, false, not, if◌then◌else◌, None}
use Rattle.std.specs.FinMap.{get, remove}
use Rattle.serde_json.specs.Data.{Data}
use Rattle.zarr_grids_keys.specs.Documents.{document_key}
use Rattle.zarr_grids_keys.specs.declared.document_name.DocumentName.{DocumentName}
use Rattle.zarr_grids_keys.specs.declared.document_name.DocumentName.TheVariants.{ZarrJson, ZArray, ZAttrs}
use Rattle.zarr_array_v2.specs.Versions.{is_version_2}
use Rattle.zarr_array_meaning.specs.Chunks.{is_listed}
use Rattle.zarr_array_meaning.specs.StoreMaps.{StoreMap}
use Rattle.zarr_array_meaning.specs.Texts.{HasDocument}
use Rattle.zarr_array_meaning.specs.declared.versions.MetadataRetrieveVersion.{MetadataRetrieveVersion}
use Rattle.zarr_array_meaning.specs.declared.versions.MetadataRetrieveVersion.TheVariants as retrieve
use Rattle.zarr_array_meaning.specs.declared.versions.MetadataEraseVersion.{MetadataEraseVersion}
use Rattle.zarr_array_meaning.specs.declared.versions.MetadataEraseVersion.TheVariants as erase

-- ---- reading

-- whether a document may be the one that is asked for: by default one of version 2 only where nothing is stored under `zarr.json`
abbrev pub IsAskedFor : MetadataRetrieveVersion → List ℕ → Data → StoreMap → Type 0
IsAskedFor retrieve.Default path tree store = is_version_2 tree ≡ true → get store (document_key path ZarrJson) ≡ None
IsAskedFor retrieve.V3 path tree store = is_version_2 tree ≡ false
IsAskedFor retrieve.V2 path tree store = is_version_2 tree ≡ true

-- a document is the one that a path has, of the version that is asked for
pub record Retrieves (version : MetadataRetrieveVersion) (path : List ℕ) (tree : Data) (store : StoreMap) : Type 0 where
  pub stored : HasDocument path tree store
  pub asked : IsAskedFor version path tree store

-- a path has no more than one document that is asked for
abbrev pub RetrievesOne : Type 0
RetrievesOne = (version : MetadataRetrieveVersion) (path : List ℕ) (a b : Data) (store : StoreMap) → Retrieves version path a store → Retrieves version path b store → a ≡ b

-- ---- erasing

-- whether the document of version 3 is erased, where the array has this document
abbrev pub erases_3 : MetadataEraseVersion → Data → Bool
erases_3 erase.Default tree = not (is_version_2 tree)
erases_3 erase.All tree = true
erases_3 erase.V3 tree = true
erases_3 erase.V2 tree = false

-- whether that of version 2 is erased
abbrev pub erases_2 : MetadataEraseVersion → Data → Bool
erases_2 erase.Default tree = is_version_2 tree
erases_2 erase.All tree = true
erases_2 erase.V3 tree = false
erases_2 erase.V2 tree = true

-- the names of the documents that are erased, in this order
abbrev pub erased_names : MetadataEraseVersion → Data → List DocumentName
erased_names version tree = (if erases_3 version tree then ZarrJson ∷ [] else []) ++ (if erases_2 version tree then ZArray ∷ ZAttrs ∷ [] else [])

-- the keys that are erased of a path whose array has this document, in their order
abbrev pub erased_keys : MetadataEraseVersion → List ℕ → Data → List (List ℕ)
erased_keys version path tree = map (document_key path) (erased_names version tree)

-- a store without some keys
abbrev pub without_keys : List (List ℕ) → StoreMap → StoreMap
without_keys [] store = store
without_keys (key ∷ keys) store = without_keys keys (remove store key)

-- the documents of the erased versions are gone, and every other key is as before
pub record ErasesDocuments (version : MetadataEraseVersion) (path : List ℕ) (held : Data) (old new : StoreMap) : Type 0 where
  pub gone : (tree : Data) → HasDocument path tree new → (if is_version_2 tree then erases_2 version held else erases_3 version held) ≡ false
  pub keys : (key : List ℕ) → is_listed (erased_keys version path held) key ≡ true → get new key ≡ None
  pub others : (key : List ℕ) → is_listed (erased_keys version path held) key ≡ false → get new key ≡ get old key

-- once these keys are erased, no document of those versions is left, and no other key changed
abbrev pub ErasedAreGone : Type 0
ErasedAreGone = (version : MetadataEraseVersion) (path : List ℕ) (held : Data) (store : StoreMap) → ErasesDocuments version path held store (without_keys (erased_keys version path held) store)
