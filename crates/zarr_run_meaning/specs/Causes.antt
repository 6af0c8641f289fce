-- When a cause may be answered: the conditions of each, where none before it in the command's order holds.
use Rattle.std.specs.Prelude.{◌≡◌, ◌⊎◌, ℕ, ◌^◌, ◌<◌, ◌≤◌, List, length, slice_get, Bool, true, false, Option, Some, None, IsErr, IsOk, IsSome}
use Rattle.std.specs.FinMap.{get}
use Rattle.serde_json.specs.Data.{Data}
use Rattle.zarr_grids_boxes.specs.Boxes.{Region, product, is_in_box}
use Rattle.zarr_grids_chunks.specs.Grids.{Grid, IsInGrid, AreInGrid, IsCovered, intersects}
use Rattle.zarr_grids_keys.specs.Documents.{document_key}
use Rattle.zarr_grids_keys.specs.Keys.{chunk_key}
use Rattle.zarr_grids_keys.specs.declared.document_name.DocumentName.TheVariants.{ZarrJson, ZArray}
use Rattle.zarr_grids_metadata.specs.Trees.{SameTree}
use Rattle.zarr_codecs_meaning.specs.Decoding.{decoded}
use Rattle.zarr_codecs_meaning.specs.Fits.{fits}
use Rattle.zarr_codecs_meaning.specs.Refusals.{CodecRefuses, PassesIndex}
use Rattle.zarr_codecs_meaning.specs.Types.{Cell, is_fill, IsTooLarge}
use Rattle.zarr_sharding_changes.specs.Compactions.{compaction, damaged}
use Rattle.zarr_sharding_changes.specs.Refusals.{CompactionRefused, CompactionTooLong}
use Rattle.zarr_codecs_metadata.specs.Chains.{ReadsCodecs}
use Rattle.zarr_codecs_types.specs.Given.{GivenCells, given_in}
use Rattle.zarr_array_v2.specs.Versions.{is_version_2}
use Rattle.zarr_array_meaning.specs.Arrays.{Array, value_at}
use Rattle.zarr_array_meaning.specs.Boxes.{IsDamagedIn, IsUnfitIn}
use Rattle.zarr_array_meaning.specs.Chunks.{IsNthIntersecting, fits_box}
use Rattle.zarr_array_meaning.specs.Documents.{Document, read_document}
use Rattle.zarr_array_meaning.specs.Rewriting.{HasTooLargeKeyed, keyed_chunks}
use Rattle.zarr_array_meaning.specs.StoreMaps.{StoreMap}
use Rattle.zarr_array_meaning.specs.Texts.{HasDocument, version_key}
use Rattle.zarr_array_meaning.specs.Writes.{Write}
use Rattle.zarr_array_meaning.specs.Writing.{IsPartDamaged, LacksRoom, IsCodecRefused, IsOversized}
use Rattle.zarr_run_meaning.specs.declared.cause.Cause.{Cause}
use Rattle.zarr_run_meaning.specs.declared.cause.Cause.TheVariants as cause
use Rattle.zarr_run_meaning.specs.Requests.{Target, in_box, in_chunk}
use Rattle.zarr_run_meaning.specs.Worlds.{Held, World, held_at, is_taken}

-- ---- what a command means

-- the box of cells that a command means: the box itself, where its places are covered, or the box of a chunk in the grid
abbrev pub IsTarget : Grid → Target → Region → Type 0
IsTarget grid (in_box region) box = (box ≡ region) × IsCovered grid region
IsTarget grid (in_chunk chunk) box = IsInGrid grid chunk box

-- the chunks that an erasure means: the box of their indices has a length for each start, and each of them lies in the grid
abbrev pub AreTargets : Grid → Region → Type 0
AreTargets grid chunks = (length chunks.start ≡ length chunks.shape) × AreInGrid grid chunks

-- what a write gives: as many values of the type as the box has places
abbrev pub Gives : Document → Region → GivenCells → List Cell → Type 0
Gives document region given values = (given_in document.elements.type given ≡ Some values) × (length values ≡ product region.shape)

-- ---- sizes

-- a box of places, or a chunk that it intersects, has 2^63 cells or more, or 2^63 bytes or more where the cells are of one size
abbrev pub HasTooLarge : Document → Region → Type 0
HasTooLarge document region = IsTooLarge document.elements.type (product region.shape)
    ⊎ ((chunk : List ℕ) × (box : Region) × IsInGrid document.grid chunk box × (intersects document.grid region chunk ≡ true) × IsTooLarge document.elements.type (product box.shape))

-- a box of chunk indices has 2^63 chunks or more, or a chunk that is too large
abbrev pub HasTooLargeChunk : Document → Region → Type 0
HasTooLargeChunk document chunks = (2 ^ 63 ≤ product chunks.shape)
    ⊎ ((chunk : List ℕ) × (box : Region) × IsInGrid document.grid chunk box × (is_in_box chunks.start chunks.shape chunk ≡ true) × IsTooLarge document.elements.type (product box.shape))

-- a chunk in the grid has 2^63 cells or more, or 2^63 bytes or more where the cells are of one size
abbrev pub IsTooLargeChunk : Document → List ℕ → Type 0
IsTooLargeChunk document chunk = (box : Region) × IsInGrid document.grid chunk box × IsTooLarge document.elements.type (product box.shape)

-- ---- documents

-- a document of an array, of Zarr version 3 or 2, is stored at a path
abbrev pub HasSomeDocument : List ℕ → StoreMap → Type 0
HasSomeDocument path store = IsSome (get store (document_key path ZarrJson)) ⊎ IsSome (get store (document_key path ZArray))

-- a key is that of a chunk in the grid of the array at a path
pub record IsChunkKey (path : List ℕ) (document : Document) (key : List ℕ) : Type 0 where
  pub chunk : List ℕ
  pub box : Region
  pub within : IsInGrid document.grid chunk box
  pub is : key ≡ chunk_key path document.keys chunk

-- a key is that of a chunk in the grid of an array that is held
pub record IsChunkKeyIn (arrays : List Held) (key : List ℕ) : Type 0 where
  pub held : Held
  pub found : held_at held.path arrays ≡ Some held
  pub names : IsChunkKey held.path held.document key

-- no document is stored under a key: it has no value, or it is the key of a chunk of an array that is held, whatever is stored there
abbrev pub HasNoneAt : List Held → StoreMap → List ℕ → Type 0
HasNoneAt arrays store key = (get store key ≡ None) ⊎ IsChunkKeyIn arrays key

-- a value is stored under a key that is not that of a chunk of an array that is held
abbrev pub HasSomeAt : List Held → StoreMap → List ℕ → Type 0
HasSomeAt arrays store key = IsSome (get store key) × (¬ IsChunkKeyIn arrays key)

-- no document of an array, of Zarr version 3 or 2, is stored at a path: no chunk of an array that is held is one
abbrev pub HasNoDocumentIn : List Held → List ℕ → StoreMap → Type 0
HasNoDocumentIn arrays path store = HasNoneAt arrays store (document_key path ZarrJson) × HasNoneAt arrays store (document_key path ZArray)

-- a document is the one that a path has: it is stored there, and no chunk of an array that is held has its key; one of version 2 only where nothing is stored under `zarr.json`, a chunk of a held array aside
pub record IsFoundIn (arrays : List Held) (path : List ℕ) (tree : Data) (store : StoreMap) : Type 0 where
  pub stored : HasDocument path tree store
  pub other : ¬ IsChunkKeyIn arrays (version_key path tree)
  pub first : is_version_2 tree ≡ true → HasNoneAt arrays store (document_key path ZarrJson)

-- something is stored under the key of a path's document, of Zarr version 3 or 2, and it is no document that opens
pub record HasBadDocument (reads : ReadsCodecs) (arrays : List Held) (path : List ℕ) (store : StoreMap) : Type 0 where
  pub some : HasSomeAt arrays store (document_key path ZarrJson) ⊎ HasSomeAt arrays store (document_key path ZArray)
  pub none : (tree : Data) → IsFoundIn arrays path tree store → IsErr (read_document reads tree)

-- ---- the causes of each command, once its path is a node path

-- a create: first the held arrays, then the document, then what is stored
abbrev pub CreateRefuses : ReadsCodecs → World → List ℕ → Data → Cause → Type 0
CreateRefuses reads world path document cause.PathTaken = (is_taken path world.arrays ≡ true) ⊎ ((is_taken path world.arrays ≡ false) × IsOk (read_document reads document) × HasSomeDocument path world.store)
CreateRefuses reads world path document cause.Document = (is_taken path world.arrays ≡ false) × IsErr (read_document reads document)
CreateRefuses reads world path document cause.Store = (is_taken path world.arrays ≡ false) × IsOk (read_document reads document)
CreateRefuses reads world path document cause.Memory = (is_taken path world.arrays ≡ false) × IsOk (read_document reads document)
CreateRefuses reads world path document c = ⊥

-- a reopening: where an array is held at the path, another tree is stored or none; else no document is stored, or none that opens
abbrev pub ReopenRefuses : ReadsCodecs → World → List ℕ → Option Held → Cause → Type 0
ReopenRefuses reads world path (Some h) cause.DocumentChanged = (tree : Data) → HasDocument path tree world.store → ¬ SameTree tree h.tree
ReopenRefuses reads world path None cause.NoArray = HasNoDocumentIn world.arrays path world.store
ReopenRefuses reads world path None cause.Document = HasBadDocument reads world.arrays path world.store
ReopenRefuses reads world path found cause.Store = Unit {0}
ReopenRefuses reads world path found c = ⊥

-- the box and the cells that a write means, before a chunk is touched
pub record IsGiven (document : Document) (target : Target) (given : GivenCells) (box : Region) (values : List Cell) : Type 0 where
  pub is : IsTarget document.grid target box
  pub gives : Gives document box given values

-- a write, before a chunk is touched
abbrev pub WriteRefuses : Document → Target → GivenCells → Cause → Type 0
WriteRefuses document target given cause.Region = (box : Region) → ¬ IsTarget document.grid target box
WriteRefuses document target given cause.Data = (box : Region) × IsTarget document.grid target box × ((values : List Cell) → ¬ Gives document box given values)
WriteRefuses document target given cause.Size = (box : Region) × (values : List Cell) × IsGiven document target given box values × HasTooLarge document box
WriteRefuses document target given c = ⊥

-- a write, at a chunk that the box intersects
abbrev pub ChunkRefuses : Write → Region → Option (List ℕ) → Cause → Type 0
ChunkRefuses write box stored cause.Fit = fits_box write.array.document box ≡ false
ChunkRefuses write box stored cause.Store = fits_box write.array.document box ≡ true
ChunkRefuses write box stored cause.Damage = IsPartDamaged write box stored ⊎ LacksRoom write box stored
ChunkRefuses write box stored cause.Codec = IsCodecRefused write box stored
ChunkRefuses write box stored cause.Size = IsOversized write box stored
ChunkRefuses write box stored cause.Memory = Unit {0}
ChunkRefuses write box stored c = ⊥

-- a write stops at the chunk at this place among those that the box intersects
pub record StopsAt (write : Write) (store : StoreMap) (n : ℕ) (c : Cause) : Type 0 where
  pub chunk : List ℕ
  pub box : Region
  pub nth : IsNthIntersecting write.array.document.grid write.region n chunk box
  pub refuses : ChunkRefuses write box (value_at write.array store chunk) c

-- a read; one of an empty box calls no store
abbrev pub ReadRefuses : List ℕ → Document → StoreMap → Target → Cause → Type 0
ReadRefuses path document store target cause.Region = (box : Region) → ¬ IsTarget document.grid target box
ReadRefuses path document store target cause.Size = (box : Region) × IsTarget document.grid target box × HasTooLarge document box
ReadRefuses path document store target cause.Fit = (box : Region) × IsTarget document.grid target box × (¬ HasTooLarge document box) × IsUnfitIn path document store box
ReadRefuses path document store target cause.Damage = (box : Region) × IsTarget document.grid target box × (¬ HasTooLarge document box) × IsDamagedIn path document store box
ReadRefuses path document store target cause.Store = (box : Region) × IsTarget document.grid target box × (¬ HasTooLarge document box) × (0 < product box.shape)
ReadRefuses path document store target c = ⊥

-- an erasure, before a chunk is touched
abbrev pub EraseRefuses : Document → Region → Cause → Type 0
EraseRefuses document chunks cause.Region = ¬ AreTargets document.grid chunks
EraseRefuses document chunks cause.Size = AreTargets document.grid chunks × HasTooLargeChunk document chunks
EraseRefuses document chunks c = ⊥

-- an erasure, at a chunk
abbrev pub EraseStops : Cause → Type 0
EraseStops cause.Store = Unit {0}
EraseStops cause.Memory = Unit {0}
EraseStops c = ⊥

-- ---- compactions and rewrites

-- a compaction of a chunk in the grid with this box, by what is stored for the chunk
abbrev pub ValueRefuses : Document → List ℕ → List ℕ → Cause → Type 0
ValueRefuses document shape value cause.Fit = fits document.chain document.elements.type shape ≡ false
ValueRefuses document shape value cause.Damage = (fits document.chain document.elements.type shape ≡ true) × (compaction document.chain shape value ≡ damaged)
ValueRefuses document shape value cause.Codec = (fits document.chain document.elements.type shape ≡ true) × CompactionRefused document.chain shape value
ValueRefuses document shape value cause.Size = (fits document.chain document.elements.type shape ≡ true) × CompactionTooLong document.chain shape value
ValueRefuses document shape value c = ⊥

-- what is stored for a chunk in the grid isn't compacted
pub record IsNotCompacted (array : Array) (store : StoreMap) (chunk : List ℕ) (c : Cause) : Type 0 where
  pub box : Region
  pub below : IsInGrid array.document.grid chunk box
  pub small : ¬ IsTooLarge array.document.elements.type (product box.shape)
  pub value : List ℕ
  pub stored : value_at array store chunk ≡ Some value
  pub refuses : ValueRefuses array.document box.shape value c

-- a compaction
abbrev pub CompactRefuses : Array → StoreMap → List ℕ → Cause → Type 0
CompactRefuses array store chunk cause.Region = (box : Region) → ¬ IsInGrid array.document.grid chunk box
CompactRefuses array store chunk cause.Size = IsTooLargeChunk array.document chunk ⊎ IsNotCompacted array store chunk cause.Size
CompactRefuses array store chunk cause.Store = (box : Region) × IsInGrid array.document.grid chunk box × (¬ IsTooLarge array.document.elements.type (product box.shape))
CompactRefuses array store chunk cause.Fit = IsNotCompacted array store chunk cause.Fit
CompactRefuses array store chunk cause.Damage = IsNotCompacted array store chunk cause.Damage
CompactRefuses array store chunk cause.Codec = IsNotCompacted array store chunk cause.Codec
CompactRefuses array store chunk c = ⊥

-- a rewrite, before a chunk is stored anew: too many chunks, or too large ones; the store may refuse to tell which chunks have a key
abbrev pub RewriteRefuses : Array → StoreMap → Cause → Type 0
RewriteRefuses array store cause.Size = HasTooLargeKeyed array store
RewriteRefuses array store cause.Store = Unit {0}
RewriteRefuses array store c = ⊥

-- the cells that a value is decoded to are to be stored anew, and they are not encoded, for this reason
pub record IsNotEncoded (document : Document) (store_empty : Bool) (shape value : List ℕ) (refuses : List Cell → Type 0) : Type 0 where
  pub fit : fits document.chain document.elements.type shape ≡ true
  pub cells : List Cell
  pub decodes : decoded document.chain document.elements shape value ≡ Some cells
  pub called : store_empty ≡ false → is_fill document.elements.fill cells ≡ false
  pub is : refuses cells

-- a rewrite, at a chunk that has this value: the chunk doesn't fit, its value isn't decoded, or its cells aren't encoded
abbrev pub RewrittenRefuses : Document → Bool → List ℕ → List ℕ → Cause → Type 0
RewrittenRefuses document store_empty shape value cause.Fit = fits document.chain document.elements.type shape ≡ false
RewrittenRefuses document store_empty shape value cause.Damage = (fits document.chain document.elements.type shape ≡ true) × (decoded document.chain document.elements shape value ≡ None)
RewrittenRefuses document store_empty shape value cause.Codec = IsNotEncoded document store_empty shape value (CodecRefuses document.chain document.elements shape)
RewrittenRefuses document store_empty shape value cause.Size = IsNotEncoded document store_empty shape value (PassesIndex document.chain document.elements shape)
RewrittenRefuses document store_empty shape value c = ⊥

-- the chunk at this place among those that have a key isn't stored anew
pub record IsNotRewritten (array : Array) (store : StoreMap) (store_empty : Bool) (n : ℕ) (c : Cause) : Type 0 where
  pub chunk : List ℕ
  pub nth : slice_get (keyed_chunks array store) n ≡ Some chunk
  pub box : Region
  pub below : IsInGrid array.document.grid chunk box
  pub value : List ℕ
  pub stored : value_at array store chunk ≡ Some value
  pub refuses : RewrittenRefuses array.document store_empty box.shape value c

-- a rewrite stops once so many chunks are stored anew; the store and memory may stop it also after the last chunk that has a key, where it is asked for the others
abbrev pub RewriteStopsAt : Array → StoreMap → Bool → ℕ → Cause → Type 0
RewriteStopsAt array store store_empty n cause.Store = n ≤ length (keyed_chunks array store)
RewriteStopsAt array store store_empty n cause.Memory = n ≤ length (keyed_chunks array store)
RewriteStopsAt array store store_empty n c = IsNotRewritten array store store_empty n c
