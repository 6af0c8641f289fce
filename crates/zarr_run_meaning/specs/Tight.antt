-- Laws of arrays whose shards hold, for each subchunk, just what encoding writes.
use Rattle.std.specs.Prelude.{◌≡◌, ℕ, List, [], ◌∷◌, map, All, Some, None, true}
use Rattle.std.specs.FinMap.{empty}
use Rattle.zarr_grids_boxes.specs.Boxes.{Region, places}
use Rattle.zarr_grids_chunks.specs.Grids.{IsInGrid}
use Rattle.zarr_codecs_meaning.specs.Encoding.{encoded}
use Rattle.zarr_codecs_meaning.specs.Types.{Cell}
use Rattle.zarr_codecs_metadata.specs.Chains.{ReadsCodecs}
use Rattle.zarr_codecs_options.specs.declared.codec_options.CodecOptions.{CodecOptions}
use Rattle.zarr_array_meaning.specs.Arrays.{value_at}
use Rattle.zarr_array_meaning.specs.Chunks.{stored_at}
use Rattle.zarr_array_meaning.specs.Documents.{Document}
use Rattle.zarr_array_meaning.specs.Standing.{ChunkTightAt}
use Rattle.zarr_array_meaning.specs.StoreMaps.{StoreMap}
use Rattle.zarr_run_meaning.specs.Laws.{HasTables}
use Rattle.zarr_run_meaning.specs.Requests.{Request, create, reopen, compact, Answer, done, compacted}
use Rattle.zarr_run_meaning.specs.Rewrites.{ReopensApart, IsCanonHeld}
use Rattle.zarr_run_meaning.specs.Runs.{Run, world_over}
use Rattle.zarr_run_meaning.specs.Sound.{IsSound, IsSoundAt, IsSoundAlone, OpensApart, HasNoChunks, IsStoredAs, AllAskFaithful, AsksOwned, ReadsGood}
use Rattle.zarr_run_meaning.specs.Steps.{Step}
use Rattle.zarr_run_meaning.specs.Tables.{cell}
use Rattle.zarr_run_meaning.specs.Worlds.{Held, World, array_of, held_at, is_row_major, writes_exactly}

-- what is stored for each chunk in the grid is tight: each slice of a shard is what encoding writes for the subchunk's cells, and a value without shards is what it writes for the chunk's
abbrev pub StoreTight : List ℕ → Document → StoreMap → (List ℕ → Cell) → Type 0
StoreTight path document store cells = (chunk : List ℕ) (box : Region) → IsInGrid document.grid chunk box → ChunkTightAt document box (stored_at path document store chunk) cells

-- what is stored for an array is tight, with the cells of its table
abbrev pub IsTightHeld : StoreMap → Held → Type 0
IsTightHeld store h = StoreTight h.path h.document store (cell h.document.elements.fill h.table)

-- the array at a path is sound alone, and what is stored for it is tight
pub record IsTightAlone (reads : ReadsCodecs) (world : World) (path : List ℕ) : Type 0 where
  pub sound : IsSoundAlone reads world path
  pub tight : IsTightHeld world.store sound.array

-- the array at a path, if one is held there, is written row-major, and what is stored for it is tight
abbrev pub IsTightThere : World → List ℕ → Type 0
IsTightThere world path = (h : Held) → held_at path world.arrays ≡ Some h → (is_row_major h.order ≡ true) × IsTightHeld world.store h

-- ---- how arrays begin

-- where no chunk has a value, what is stored for an array is tight, with the fill value at each place
abbrev pub NoChunksAreTight : Type 0
NoChunksAreTight = (path : List ℕ) (document : Document) (store : StoreMap) → HasNoChunks path document store → StoreTight path document store (λ place. document.elements.fill)

-- an array that begins over chunks that stand for cells, and are tight, is tight, whatever is stored for the others
abbrev pub BeginsTight : Type 0
BeginsTight = (reads : ReadsCodecs) (old new : World) (request : Request) (answer : Answer) (path : List ℕ) (h : Held) (cells : List ℕ → Cell) → ReadsGood reads → held_at path old.arrays ≡ None
    → Step reads old request answer new → held_at path new.arrays ≡ Some h → IsStoredAs path h.document old.store cells → StoreTight path h.document old.store cells → IsTightHeld new.store h

-- what storing the cells of an array afresh leaves is tight
abbrev pub CanonTight : Type 0
CanonTight = (reads : ReadsCodecs) (store : StoreMap) (h : Held) → ReadsGood reads → IsSoundAt reads store h → IsCanonHeld store h → IsTightHeld store h

-- ---- steps

-- a step keeps it so of an array whose chunks' values depend on their cells alone, if it opens no array at a related path: also one that is refused, and whatever is stored for the other arrays
abbrev pub StepsKeepTight : Type 0
StepsKeepTight = (reads : ReadsCodecs) (old new : World) (request : Request) (answer : Answer) (path : List ℕ) → ReadsGood reads → HasTables reads old → OpensApart path old request answer
    → (tight : IsTightAlone reads old path) → writes_exactly tight.sound.array ≡ true → Step reads old request answer new → IsTightAlone reads new path

-- the value of a chunk in the grid is what encoding its cells writes
pub record IsEncodedAt (h : Held) (store : StoreMap) (chunk : List ℕ) : Type 0 where
  pub box : Region
  pub below : IsInGrid h.document.grid chunk box
  pub value : List ℕ
  pub stored : value_at (array_of h) store chunk ≡ Some value
  pub is : encoded h.document.chain h.document.elements box.shape (map (cell h.document.elements.fill h.table) (places box.start box.shape)) ≡ Some value

-- a compaction of such an array that writes a chunk anew leaves just what encoding the chunk's cells writes
abbrev pub CompactsExactly : Type 0
CompactsExactly = (reads : ReadsCodecs) (old new : World) (path chunk : List ℕ) (options : CodecOptions) (h : Held) → held_at path old.arrays ≡ Some h → IsTightHeld old.store h
    → Step reads old (compact path chunk options) (compacted true) new → IsEncodedAt h new.store chunk

-- ---- runs

-- a create and a reopening of a path that are done ask for subchunks in row-major order
abbrev pub AsksRowMajor : List ℕ → Request → Answer → Type 0
AsksRowMajor path (create other document order) done = other ≡ path → is_row_major order ≡ true
AsksRowMajor path (reopen other order) done = other ≡ path → is_row_major order ≡ true
AsksRowMajor path request answer = Unit {0}

-- all of them do
abbrev pub AllAskRowMajor : List ℕ → List Request → List Answer → Type 0
AllAskRowMajor path [] answers = Unit {0}
AllAskRowMajor path (request ∷ requests) [] = Unit {0}
AllAskRowMajor path (request ∷ requests) (answer ∷ answers) = AsksRowMajor path request answer × AllAskRowMajor path requests answers

-- a run keeps it so of an array that is written row-major, where each reopening of its path that is done asks for that order, whatever is stored for the other arrays
abbrev pub RunsKeepTight : Type 0
RunsKeepTight = (reads : ReadsCodecs) (old new : World) (requests : List Request) (answers : List Answer) (path : List ℕ) → ReadsGood reads → HasTables reads old → All (ReopensApart path) requests
    → AllAskRowMajor path requests answers → (tight : IsTightAlone reads old path) → is_row_major tight.sound.array.order ≡ true → Run reads old requests answers new → IsTightAlone reads new path

-- and so does one from a sound world whose creates name faithful documents, where no key is foreign of those that its commands may begin an array over; an array that begins in it is tight, too
abbrev pub OwnedRunsTight : Type 0
OwnedRunsTight = (reads : ReadsCodecs) (old new : World) (requests : List Request) (answers : List Answer) (path : List ℕ) → ReadsGood reads → All (AsksOwned old) requests → AllAskFaithful reads requests answers
    → AllAskRowMajor path requests answers → IsSound reads old → IsTightThere old path → Run reads old requests answers new → IsTightThere new path

-- a session over a store that began without keys, whose creates name faithful documents: where each create and reopening of a path that is done asks for row-major order, what is stored for the array that is held there at the end is tight
abbrev pub RunsTight : Type 0
RunsTight = (reads : ReadsCodecs) (new : World) (count : ℕ) (requests : List Request) (answers : List Answer) (path : List ℕ) → ReadsGood reads → AllAskFaithful reads requests answers
    → AllAskRowMajor path requests answers → Run reads (world_over empty count) requests answers new → IsTightThere new path
