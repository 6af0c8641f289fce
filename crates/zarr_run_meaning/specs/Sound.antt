-- Worlds in which nothing is damaged and no document has changed, and which keys of their stores are foreign.
use Rattle.std.specs.Prelude.{◌≡◌, ◌≢◌, ◌⊎◌, ℕ, List, [], ◌∷◌, ◌++◌, codes, true, false, Some, None, Ok}
use Rattle.std.specs.FinMap.{get}
use Rattle.serde_json.specs.Data.{Data}
use Rattle.zarr_grids_boxes.specs.Boxes.{Region}
use Rattle.zarr_grids_chunks.specs.Grids.{IsInGrid}
use Rattle.zarr_grids_keys.specs.Documents.{document_key}
use Rattle.zarr_grids_keys.specs.Keys.{KeyEncoding, default, v2, suffixed, key_under}
use Rattle.zarr_grids_keys.specs.Paths.{is_node_path}
use Rattle.zarr_grids_keys.specs.Related.{is_related}
use Rattle.zarr_grids_keys.specs.declared.document_name.DocumentName.TheVariants.{ZarrJson, ZArray, ZAttrs}
use Rattle.zarr_grids_metadata.specs.ExtensionPoints.{ExtensionPoint}
use Rattle.zarr_codecs_meaning.specs.Chains.{ByteCodec}
use Rattle.zarr_codecs_meaning.specs.Laws.{IsLawful}
use Rattle.zarr_codecs_meaning.specs.Types.{Cell}
use Rattle.zarr_codecs_metadata.specs.Chains.{ReadsCodecs}
use Rattle.zarr_array_v2.specs.Versions.{is_version_2}
use Rattle.zarr_array_meaning.specs.Chunks.{stored_at}
use Rattle.zarr_array_meaning.specs.Documents.{Document, read_document}
use Rattle.zarr_array_meaning.specs.Standing.{StoreStands, IsLossless, IsGood, AreValues}
use Rattle.zarr_array_meaning.specs.StoreMaps.{StoreMap}
use Rattle.zarr_array_meaning.specs.Texts.{HasDocument, version_key}
use Rattle.zarr_run_meaning.specs.Causes.{IsChunkKey, IsFoundIn}
use Rattle.zarr_run_meaning.specs.Requests.{Request, create, reopen, Answer, done}
use Rattle.zarr_run_meaning.specs.Steps.{Step}
use Rattle.zarr_run_meaning.specs.Tables.{cell}
use Rattle.zarr_run_meaning.specs.Worlds.{Held, World, held_at, is_taken}

-- the paths of the arrays that are held are unrelated
abbrev pub AreApart : List Held → Type 0
AreApart [] = Unit {0}
AreApart (h ∷ hs) = (is_taken h.path hs ≡ false) × AreApart hs

-- an array whose document is stored, one of version 2 with none of version 3 beside it, and for the cells of whose table its chunks' values stand
pub record IsSoundAt (reads : ReadsCodecs) (store : StoreMap) (h : Held) : Type 0 where
  pub node : is_node_path h.path ≡ true
  pub says : read_document reads h.tree ≡ Ok h.document
  pub stored : HasDocument h.path h.tree store
  pub first : is_version_2 h.tree ≡ true → get store (document_key h.path ZarrJson) ≡ None
  pub lossless : IsLossless h.document
  pub values : AreValues h.document (cell h.document.elements.fill h.table)
  pub stands : StoreStands h.path h.document store (cell h.document.elements.fill h.table)

-- each array is sound, at a path of its own, whatever else is stored
pub record IsSound (reads : ReadsCodecs) (world : World) : Type 0 where
  pub apart : AreApart world.arrays
  pub each : (path : List ℕ) (h : Held) → held_at path world.arrays ≡ Some h → IsSoundAt reads world.store h

-- the array that is held at a path is sound, and no other one is at a related path, whatever is stored for the others
pub record IsSoundAlone (reads : ReadsCodecs) (world : World) (path : List ℕ) : Type 0 where
  pub array : Held
  pub found : held_at path world.arrays ≡ Some array
  pub there : IsSoundAt reads world.store array
  pub alone : (other : List ℕ) (h : Held) → held_at other world.arrays ≡ Some h → other ≢ path → is_related path other ≡ false

-- if the command is done and opens an array, its path is unrelated to this one
abbrev pub OpensApart : List ℕ → World → Request → Answer → Type 0
OpensApart path old (reopen other order) done = held_at other old.arrays ≡ None → is_related path other ≡ false
OpensApart path old request answer = Unit {0}

-- ---- which keys are the arrays' own

-- a key is an array's own: it is that of its document, of version 2 `.zarray`, or of a chunk in its grid
abbrev pub OwnsKey : Held → List ℕ → Type 0
OwnsKey h key = (key ≡ version_key h.path h.tree) ⊎ IsChunkKey h.path h.document key

-- a key is the own key of an array that is held
abbrev pub IsOwnKey : List Held → List ℕ → Type 0
IsOwnKey arrays key = (h : Held) × (held_at h.path arrays ≡ Some h) × OwnsKey h key

-- a key is that of the attributes of a node, as version 2 stores them
abbrev pub IsAttributesKey : List ℕ → Type 0
IsAttributesKey key = (path : List ℕ) × (is_node_path path ≡ true) × (key ≡ document_key path ZAttrs)

-- a key isn't foreign: where it has a value, it is the own key of an array that is held; or it is that of a node's attributes, which a refused create may leave
abbrev pub IsOwned : World → List ℕ → Type 0
IsOwned world key = (value : List ℕ) → get world.store key ≡ Some value → IsOwnKey world.arrays key ⊎ IsAttributesKey key

-- the store has no foreign key
abbrev pub OwnsAllKeys : World → Type 0
OwnsAllKeys world = (key : List ℕ) → IsOwned world key

-- the store has no foreign key under a path
abbrev pub OwnsKeysUnder : List ℕ → World → Type 0
OwnsKeysUnder path world = (name : List ℕ) → IsOwned world (key_under path name)

-- ---- how arrays begin

-- no chunk in the grid has a value
abbrev pub HasNoChunks : List ℕ → Document → StoreMap → Type 0
HasNoChunks path document store = (chunk : List ℕ) (box : Region) → IsInGrid document.grid chunk box → stored_at path document store chunk ≡ None

-- what is stored for an array stands for these cells, values of its type, and its chain keeps every bit of them
pub record IsStoredAs (path : List ℕ) (document : Document) (store : StoreMap) (cells : List ℕ → Cell) : Type 0 where
  pub lossless : IsLossless document
  pub values : AreValues document cells
  pub stands : StoreStands path document store cells

-- if the command is done and begins an array, what is stored for that array stands for some cells; and if it is opened, its path is unrelated to those of the arrays that are held
abbrev pub BeginsSound : ReadsCodecs → World → Request → Answer → Type 0
BeginsSound reads old (create path document order) done = (meaning : Document) → read_document reads document ≡ Ok meaning → (cells : List ℕ → Cell) × IsStoredAs path meaning old.store cells
BeginsSound reads old (reopen path order) done = (tree : Data) (meaning : Document) → held_at path old.arrays ≡ None → IsFoundIn old.arrays path tree old.store → read_document reads tree ≡ Ok meaning
    → (is_taken path old.arrays ≡ false) × ((cells : List ℕ → Cell) × IsStoredAs path meaning old.store cells)
BeginsSound reads old request answer = Unit {0}

-- a run in which each array begins so
abbrev pub SoundRun : ReadsCodecs → World → List Request → List Answer → World → Type 0
SoundRun reads old [] [] new = new ≡ old
SoundRun reads old (request ∷ requests) (answer ∷ answers) new = (mid : World) × BeginsSound reads old request answer × Step reads old request answer mid × SoundRun reads mid requests answers new
SoundRun reads old [] (answer ∷ answers) new = ⊥
SoundRun reads old (request ∷ requests) [] new = ⊥

-- the suffix of chunks' keys, if they have one, doesn't end as the key of a node's attributes does
abbrev pub EndsOtherwise : KeyEncoding → Type 0
EndsOtherwise (default separator) = Unit {0}
EndsOtherwise (v2 separator) = Unit {0}
EndsOtherwise (suffixed separator suffix) = (front : List ℕ) → suffix ≢ front ++ codes "/.zattrs"

-- a document by which an array begins as fill over keys that aren't foreign: its chain keeps every bit, and none of its chunks' keys is that of a node's attributes
pub record IsFaithful (document : Document) : Type 0 where
  pub lossless : IsLossless document
  pub ends : EndsOtherwise document.keys

-- a create that is done names such a document
abbrev pub AsksFaithful : ReadsCodecs → Request → Answer → Type 0
AsksFaithful reads (create path document order) done = (meaning : Document) → read_document reads document ≡ Ok meaning → IsFaithful meaning
AsksFaithful reads request answer = Unit {0}

-- each create that is done names such a document
abbrev pub AllAskFaithful : ReadsCodecs → List Request → List Answer → Type 0
AllAskFaithful reads [] answers = Unit {0}
AllAskFaithful reads (request ∷ requests) [] = Unit {0}
AllAskFaithful reads (request ∷ requests) (answer ∷ answers) = AsksFaithful reads request answer × AllAskFaithful reads requests answers

-- where a create may begin an array no key is foreign, and where a reopening may open one, since none is held there, its documents are not, of either version
abbrev pub AsksOwned : World → Request → Type 0
AsksOwned world (create path document order) = OwnsKeysUnder path world
AsksOwned world (reopen path order) = held_at path world.arrays ≡ None → IsOwned world (document_key path ZarrJson) × IsOwned world (document_key path ZArray)
AsksOwned world request = Unit {0}

-- each of the caller's codecs that metadata says is lawful
abbrev pub ReadsLawful : ReadsCodecs → Type 0
ReadsLawful reads = (point : ExtensionPoint) (codec : ByteCodec) → reads point ≡ Some codec → IsLawful codec

-- the documents that open are good: the caller's codecs that are read are lawful
abbrev pub ReadsGood : ReadsCodecs → Type 0
ReadsGood reads = (document : Data) (meaning : Document) → read_document reads document ≡ Ok meaning → IsGood meaning
