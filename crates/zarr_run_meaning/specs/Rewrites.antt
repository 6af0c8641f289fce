-- Laws of what rewrites leave, and of what commands leave alone.
use Rattle.std.specs.Prelude.{◌≡◌, ◌≢◌, ◌⊎◌, ℕ, List, take, All, Some, true, false}
use Rattle.std.specs.FinMap.{get, empty}
use Rattle.zarr_grids_boxes.specs.Boxes.{Region}
use Rattle.zarr_grids_chunks.specs.Grids.{IsInGrid}
use Rattle.zarr_grids_keys.specs.Keys.{key_under}
use Rattle.zarr_grids_keys.specs.Paths.{is_node_path}
use Rattle.zarr_grids_keys.specs.Related.{is_related}
use Rattle.zarr_codecs_metadata.specs.Chains.{ReadsCodecs}
use Rattle.zarr_codecs_options.specs.declared.codec_options.CodecOptions.{CodecOptions}
use Rattle.zarr_codecs_options.specs.declared.subchunk_write_order.SubchunkWriteOrder.{SubchunkWriteOrder}
use Rattle.zarr_array_meaning.specs.Chunks.{is_listed, KeepsOtherKeys}
use Rattle.zarr_array_meaning.specs.Rewriting.{keyed_chunks, IsCanonAt, IsCanon}
use Rattle.zarr_array_meaning.specs.StoreMaps.{StoreMap}
use Rattle.zarr_run_meaning.specs.declared.cause.Cause.{Cause}
use Rattle.zarr_run_meaning.specs.Laws.{HasTables}
use Rattle.zarr_run_meaning.specs.Requests.{Request, reopen, read, compact, rewrite, path_of, Answer, done, refused}
use Rattle.zarr_run_meaning.specs.Runs.{Run, world_over}
use Rattle.zarr_run_meaning.specs.Sound.{IsSound, IsSoundAlone, OpensApart, SoundRun, AllAskFaithful, ReadsGood}
use Rattle.zarr_run_meaning.specs.Steps.{Step}
use Rattle.zarr_run_meaning.specs.Tables.{cell}
use Rattle.zarr_run_meaning.specs.Worlds.{Held, World, array_of, held_at, writes_exactly}

-- ---- what commands leave alone

-- a command changes no key under a path that is unrelated to its own
abbrev pub StepsLeaveUnrelated : Type 0
StepsLeaveUnrelated = (reads : ReadsCodecs) (old new : World) (request : Request) (answer : Answer) (path name : List ℕ) → is_node_path path ≡ true → is_related (path_of request) path ≡ false
    → Step reads old request answer new → get new.store (key_under path name) ≡ get old.store (key_under path name)

-- a command gives no cells: it is a rewrite, a compaction or a reopening
abbrev pub GivesNoCells : Request → Type 0
GivesNoCells (reopen path order) = Unit {0}
GivesNoCells (compact path chunk options) = Unit {0}
GivesNoCells (rewrite path options) = Unit {0}
GivesNoCells request = ⊥

-- an array is held as it was, its write order aside
pub record IsHeldStill (path : List ℕ) (h : Held) (world : World) : Type 0 where
  pub order : SubchunkWriteOrder
  pub found : held_at path world.arrays ≡ Some (record h { order = order })

-- a rewrite, a compaction and a reopening change no cell of the array that is held at their path, nor of one at an unrelated path
abbrev pub ChangesNoCell : Type 0
ChangesNoCell = (reads : ReadsCodecs) (old new : World) (request : Request) (answer : Answer) (path : List ℕ) (h : Held) → GivesNoCells request → held_at path old.arrays ≡ Some h
    → (path_of request ≡ path) ⊎ (is_related (path_of request) path ≡ false) → Step reads old request answer new → IsHeldStill path h new

-- ---- what rewrites leave

-- what is stored for an array is what storing the cells of its table afresh leaves
abbrev pub IsCanonHeld : StoreMap → Held → Type 0
IsCanonHeld store h = IsCanon (array_of h) store (cell h.document.elements.fill h.table)

-- the value of each of these chunks is what storing its cells afresh leaves, and no other key changed
pub record AreCanonFirst (h : Held) (chunks : List (List ℕ)) (old new : StoreMap) : Type 0 where
  pub canon : (chunk : List ℕ) (box : Region) → IsInGrid h.document.grid chunk box → is_listed chunks chunk ≡ true → IsCanonAt (array_of h) new chunk box (cell h.document.elements.fill h.table)
  pub others : KeepsOtherKeys h.path h.document chunks old new

-- a rewrite that stores no empty chunk, of an array whose chunks' values depend on their cells alone, leaves what storing its cells afresh leaves, whatever is stored for the other arrays; and one that is refused leaves that for exactly the first chunks that had a key
abbrev pub RewritesCanon : Type 0
RewritesCanon = (reads : ReadsCodecs) (old new : World) (path : List ℕ) (options : CodecOptions) (h : Held) → ReadsGood reads → IsSoundAlone reads old path → held_at path old.arrays ≡ Some h
    → writes_exactly h ≡ true → options.store_empty_chunks ≡ false
    → (Step reads old (rewrite path options) done new → (held_at path new.arrays ≡ Some h) × IsCanonHeld new.store h)
    × ((c : Cause) (n : ℕ) → Step reads old (rewrite path options) (refused c n) new → AreCanonFirst h (take n (keyed_chunks (array_of h) old.store)) old.store new.store)

-- the array at a path is sound alone, and what is stored for it is what storing its cells afresh leaves
pub record IsCanonAlone (reads : ReadsCodecs) (world : World) (path : List ℕ) : Type 0 where
  pub sound : IsSoundAlone reads world path
  pub canon : IsCanonHeld world.store sound.array

-- a command leaves the cells of the array at a path: it is a read, a compaction or a reopening, or it names another path
abbrev pub LeavesCells : List ℕ → Request → Type 0
LeavesCells path (reopen other order) = Unit {0}
LeavesCells path (read other target options) = Unit {0}
LeavesCells path (compact other chunk options) = Unit {0}
LeavesCells path request = path_of request ≢ path

-- such a step keeps it so, if it opens no array at a related path
abbrev pub KeepsCanon : Type 0
KeepsCanon = (reads : ReadsCodecs) (old new : World) (request : Request) (answer : Answer) (path : List ℕ) → ReadsGood reads → HasTables reads old → LeavesCells path request → OpensApart path old request answer
    → IsCanonAlone reads old path → Step reads old request answer new → IsCanonAlone reads new path

-- a reopening names the path, or an unrelated one
abbrev pub ReopensApart : List ℕ → Request → Type 0
ReopensApart path (reopen other order) = (other ≡ path) ⊎ (is_related path other ≡ false)
ReopensApart path request = Unit {0}

-- and so does a run of such commands, whatever is stored for the other arrays
abbrev pub RunsKeepCanon : Type 0
RunsKeepCanon = (reads : ReadsCodecs) (old new : World) (requests : List Request) (answers : List Answer) (path : List ℕ) → ReadsGood reads → HasTables reads old
    → All (LeavesCells path) requests → All (ReopensApart path) requests → IsCanonAlone reads old path → Run reads old requests answers new → IsCanonAlone reads new path

-- and one from a sound world in which each array begins over chunks that stand for cells
abbrev pub SoundRunsKeepCanon : Type 0
SoundRunsKeepCanon = (reads : ReadsCodecs) (old new : World) (requests : List Request) (answers : List Answer) (path : List ℕ) → ReadsGood reads → IsSound reads old
    → All (LeavesCells path) requests → IsCanonAlone reads old path → SoundRun reads old requests answers new → IsCanonAlone reads new path

-- a session over a store that began without keys, whose creates name faithful documents: after a rewrite that stores no empty chunk, of an array whose chunks' values depend on their cells alone, the store holds for that array what storing its cells afresh leaves, as long as no command changes its cells
abbrev pub RunsLeaveCanon : Type 0
RunsLeaveCanon = (reads : ReadsCodecs) (mid last new : World) (count : ℕ) (requests more : List Request) (answers others : List Answer) (path : List ℕ) (options : CodecOptions) (h : Held) → ReadsGood reads
    → AllAskFaithful reads requests answers → Run reads (world_over empty count) requests answers mid
    → held_at path mid.arrays ≡ Some h → writes_exactly h ≡ true → options.store_empty_chunks ≡ false → Step reads mid (rewrite path options) done last
    → AllAskFaithful reads more others → All (LeavesCells path) more → Run reads last more others new
    → (g : Held) × (held_at path new.arrays ≡ Some g) × IsCanonHeld new.store g

-- no key has another value
abbrev pub SameValues : StoreMap → StoreMap → Type 0
SameValues old new = (key : List ℕ) → get new key ≡ get old key

-- where it is so, a rewrite changes no key and no byte, whatever it answers
abbrev pub CanonStays : Type 0
CanonStays = (reads : ReadsCodecs) (old new : World) (path : List ℕ) (options : CodecOptions) (answer : Answer) → ReadsGood reads → (canon : IsCanonAlone reads old path)
    → writes_exactly canon.sound.array ≡ true → options.store_empty_chunks ≡ false → Step reads old (rewrite path options) answer new → SameValues old.store new.store

-- so a second rewrite changes no key and no byte, where between the two no command changed a cell of the array
abbrev pub RewrittenTwice : Type 0
RewrittenTwice = (reads : ReadsCodecs) (old mid last new : World) (path : List ℕ) (options more : CodecOptions) (h g : Held) (requests : List Request) (answers : List Answer) (answer : Answer) → ReadsGood reads → HasTables reads old → IsSoundAlone reads old path
    → held_at path old.arrays ≡ Some h → writes_exactly h ≡ true → options.store_empty_chunks ≡ false → Step reads old (rewrite path options) done mid
    → All (LeavesCells path) requests → All (ReopensApart path) requests → Run reads mid requests answers last
    → held_at path last.arrays ≡ Some g → writes_exactly g ≡ true → more.store_empty_chunks ≡ false → Step reads last (rewrite path more) answer new → SameValues last.store new.store
