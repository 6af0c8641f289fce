-- Held arrays in a world.
use Rattle.std.specs.Prelude.{◌≡◌, ℕ, List, [], ◌∷◌, Option, Some, None, Ok, Err, Result, String, bytes_eq, IsTrue, ◌||◌, true, false}
use Rattle.std.specs.BTreeMap.{BTreeMap, get_by_text}
use Rattle.std.specs.List.{list_any}
use Rattle.std.specs.declared.alloc.Global.{Global}
use Rattle.serde_json.specs.View.{view}
use Rattle.zarr_grids_keys.specs.Paths.{is_node_path}
use Rattle.zarr_codecs_meaning.specs.Chains.{ByteCodec}
use Rattle.zarr_codecs_meaning.specs.Fits.{is_plain}
use Rattle.zarr_codecs_metadata.specs.Chains.{ReadsCodecs}
use Rattle.zarr_codecs_options.specs.declared.subchunk_write_order.SubchunkWriteOrder.{SubchunkWriteOrder}
use Rattle.zarr_sharding_chains.specs.ArrayChains.{array_function, array_meaning}
use Rattle.zarr_sharding_chains.specs.declared.array_chain.ArrayChain.{ArrayChain}
use Rattle.zarr_array_core.specs.Views as core
use Rattle.zarr_array_core.specs.declared.array_core.ArrayCore.{ArrayCore}
use Rattle.zarr_array_meaning.specs.Documents.{Document, read_document}
use Rattle.zarr_array_meaning.specs.StoreMaps.{StoreMap}
use Rattle.zarr_run_meaning.specs.declared.cause.Cause.{Cause}
use Rattle.zarr_run_meaning.specs.Requests.{Request, Answer, done, refused}
use Rattle.zarr_run_meaning.specs.Steps.{Step}
use Rattle.zarr_run_meaning.specs.Worlds.{Held, World, held_at, is_row_major, writes_exactly, IsTableAt}
use Rattle.zarr_run_opening.specs.declared.held.HeldArray.{HeldArray}

-- arrays by their paths
abbrev pub Arrays : Type 0 → Type 0
Arrays B = BTreeMap (String Global) (HeldArray B)

-- the array at a path, if there is one
abbrev pub array_at : {B : Type 0} → Arrays B → List ℕ → Option (HeldArray B)
array_at arrays path = get_by_text arrays path

-- what the caller's codecs do, and which of them metadata says
abbrev pub Codecs : Type 0 → Type 0
Codecs B = (B → ByteCodec) × ReadsCodecs

-- what the document of an array says, given what the caller's codecs are
abbrev pub document_of : {B : Type 0} → (B → ByteCodec) → HeldArray B → Document
document_of meaning array = core.document_of (array_meaning meaning) array.core

-- what the codecs of an array make of elements depends on these alone where the chain makes no shard, or the order is row-major
abbrev pub FollowsOrder : {B : Type 0} → (B → ByteCodec) → SubchunkWriteOrder → ArrayCore (ArrayChain B) → Type 0
FollowsOrder meaning order array = IsTrue (is_plain (core.document_of (array_meaning meaning) array).chain || is_row_major order) → IsTrue (core.is_exact array_function array)

-- the array is the one of a world, at a node path, what is stored shows only its table's cells, and values depend on cells alone where the world says so
pub record IsHeld {B : Type 0} (meaning : B → ByteCodec) (reads : ReadsCodecs) (store : StoreMap) (array : HeldArray B) (h : Held) : Type 0 where
  pub node : is_node_path h.path ≡ true
  pub path : h.path ≡ core.path_of array.core
  pub tree : h.tree ≡ view array.tree
  pub document : h.document ≡ document_of meaning array
  pub order : h.order ≡ array.order
  pub says : read_document reads h.tree ≡ Ok h.document
  pub exact : IsTrue (writes_exactly h) → IsTrue (core.is_exact array_function array.core)
  pub table : IsTableAt h.path h.document store h.table

-- what is held at a path is what a world has there
abbrev pub Agrees : {B : Type 0} → (B → ByteCodec) → ReadsCodecs → StoreMap → Option (HeldArray B) → Option Held → Type 0
Agrees meaning reads store None None = Unit {0}
Agrees meaning reads store None (Some h) = ⊥
Agrees meaning reads store (Some array) None = ⊥
Agrees meaning reads store (Some array) (Some h) = IsHeld meaning reads store array h

-- no path is that of two arrays
abbrev pub AreDistinct : List Held → Type 0
AreDistinct [] = Unit {0}
AreDistinct (h ∷ hs) = (list_any (λ (other : Held). bytes_eq h.path other.path) hs ≡ false) × AreDistinct hs

-- the held arrays, what the store holds, and how many of its calls it has refused
abbrev pub State : Type 0 → Type 0
State B = Arrays B × (StoreMap × ℕ)

-- a state is in a world: they have the same arrays and the same store
pub record IsIn {B : Type 0} (meaning : B → ByteCodec) (reads : ReadsCodecs) (state : State B) (world : World) : Type 0 where
  pub agree : (path : List ℕ) → Agrees meaning reads state.1.0 (array_at state.0 path) (held_at path world.arrays)
  pub distinct : AreDistinct world.arrays
  pub store : world.store ≡ state.1.0
  pub refused : world.refused ≡ state.1.1

-- a command with its answer
abbrev pub Exchange : Type 0
Exchange = Request × Answer

-- from each world that the old state is in, a step with this answer leads to one that the new state is in
abbrev pub StepsFrom : {B : Type 0} → Codecs B → State B → Exchange → State B → Type 0
StepsFrom codecs old e new = (before : World) → IsIn codecs.0 codecs.1 old before → (after : World) × Step codecs.1 before e.0 e.1 after × IsIn codecs.0 codecs.1 new after

-- what is answered to a command that is done, or refused before it changed anything
abbrev pub answer_of : Result (Unit {0}) Cause → Answer
answer_of (Ok x) = done
answer_of (Err cause) = refused cause 0
