-- Keys that are those of chunks of held arrays.
use Rattle.std.specs.Prelude.{◌≡◌, ◌⊎◌, ℕ, List, length, codes, bytes_eq, if◌then◌else◌, IsTrue, IsSome, Some, None}
use Rattle.std.specs.FinMap.{get}
use Rattle.zarr_grids_keys.specs.Documents.{document_key}
use Rattle.zarr_grids_keys.specs.Paths.{is_node_path}
use Rattle.zarr_grids_keys.specs.declared.document_name.DocumentName.{DocumentName}
use Rattle.zarr_codecs_meaning.specs.Chains.{ByteCodec}
use Rattle.zarr_array_meaning.specs.StoreMaps.{StoreMap}
use Rattle.zarr_run_meaning.specs.Causes.{IsChunkKey}
use Rattle.zarr_run_opening.specs.Sessions.{Arrays, array_at, document_of}
use Rattle.zarr_run_opening.specs.declared.held.HeldArray.{HeldArray}

-- an array is held at a path, and a key is that of a chunk in its grid
pub record IsChunkKeyAt {B : Type 0} (meaning : B → ByteCodec) (arrays : Arrays B) (key path : List ℕ) : Type 0 where
  pub array : HeldArray B
  pub found : array_at arrays path ≡ Some array
  pub names : IsChunkKey path (document_of meaning array) key

-- a key is that of a chunk in the grid of an array that is held at a node path
pub record IsChunkKeyOf {B : Type 0} (meaning : B → ByteCodec) (arrays : Arrays B) (key : List ℕ) : Type 0 where
  pub path : List ℕ
  pub node : IsTrue (is_node_path path)
  pub at : IsChunkKeyAt meaning arrays key path

-- how many bytes stand before the names in the store keys under a path
abbrev pub length_above : List ℕ → ℕ
length_above path = if bytes_eq path (codes "/") then 0 else length path

-- a key is that of a document of a node
abbrev pub IsDocumentKey : List ℕ → Type 0
IsDocumentKey key = (path : List ℕ) × IsTrue (is_node_path path) × ((name : DocumentName) × (key ≡ document_key path name))

-- no document is stored under a key: it has no value, or is the key of a chunk
abbrev pub HasNoneBeside : (List ℕ → Type 0) → StoreMap → List ℕ → Type 0
HasNoneBeside IsChunk store key = (get store key ≡ None) ⊎ IsChunk key

-- a value is stored under a key that is no chunk's
abbrev pub HasSomeBeside : (List ℕ → Type 0) → StoreMap → List ℕ → Type 0
HasSomeBeside IsChunk store key = IsSome (get store key) × (¬ IsChunk key)
