-- Laws of steps and runs.
use Rattle.std.specs.Prelude.{◌≡◌, ◌⊎◌, ℕ, List, ◌++◌, length, All, slice_get, Some, None, Ok, true, false}
use Rattle.std.specs.FinMap.{empty, get}
use Rattle.serde_json.specs.Data.{Data}
use Rattle.zarr_grids_boxes.specs.Boxes.{Region, is_in_box}
use Rattle.zarr_grids_chunks.specs.Grids.{IsInGrid}
use Rattle.zarr_grids_keys.specs.Documents.{document_key}
use Rattle.zarr_grids_keys.specs.Paths.{is_node_path}
use Rattle.zarr_grids_keys.specs.Related.{is_under, is_related}
use Rattle.zarr_grids_keys.specs.declared.document_name.DocumentName.TheVariants.{ZarrJson, ZArray, ZAttrs}
use Rattle.zarr_codecs_meaning.specs.Payloads.{Payload, cells_in}
use Rattle.zarr_codecs_meaning.specs.Types.{Cell}
use Rattle.zarr_codecs_metadata.specs.Chains.{ReadsCodecs}
use Rattle.zarr_codecs_options.specs.declared.codec_options.CodecOptions.{CodecOptions}
use Rattle.zarr_codecs_options.specs.declared.subchunk_write_order.SubchunkWriteOrder.{SubchunkWriteOrder}
use Rattle.zarr_codecs_types.specs.Given.{GivenCells}
use Rattle.zarr_array_meaning.specs.Chunks.{stored_at}
use Rattle.zarr_array_meaning.specs.Documents.{Document, read_document}
use Rattle.zarr_array_meaning.specs.Standing.{IsGood, IsLossless, AreValues, ValuesFit}
use Rattle.zarr_array_meaning.specs.StoreMaps.{StoreMap}
use Rattle.zarr_array_meaning.specs.Texts.{HasDocument, version_key}
use Rattle.zarr_array_meaning.specs.Writing.{is_into_shard}
use Rattle.zarr_run_meaning.specs.declared.cause.Cause.TheVariants as cause
use Rattle.zarr_run_meaning.specs.Causes.{IsTarget, IsChunkKeyIn}
use Rattle.zarr_run_meaning.specs.Printing.{PrintsValues, IsFormed, GivesValues}
use Rattle.zarr_run_meaning.specs.Requests.{Target, Request, create, reopen, read, write, compact, rewrite, path_of, Answer, done, cells as gives, refused}
use Rattle.zarr_run_meaning.specs.Runs.{Run, world_over}
use Rattle.zarr_run_meaning.specs.Sound.{AreApart, IsSoundAt, IsSound, IsSoundAlone, OpensApart, IsOwned, OwnsAllKeys, OwnsKeysUnder, HasNoChunks, IsStoredAs, BeginsSound, SoundRun, EndsOtherwise, AsksFaithful, AllAskFaithful, AsksOwned, ReadsLawful, ReadsGood}
use Rattle.zarr_run_meaning.specs.Steps.{Step}
use Rattle.zarr_run_meaning.specs.Tables.{Table, cell}
use Rattle.zarr_run_meaning.specs.Worlds.{Held, World, held_at, is_taken, IsTableAt}

-- two functions give the same cell to each place of each chunk in the grid
abbrev pub SameCells : Document → (List ℕ → Cell) → (List ℕ → Cell) → Type 0
SameCells document f g = (chunk : List ℕ) (box : Region) (place : List ℕ) → IsInGrid document.grid chunk box → is_in_box box.start box.shape place ≡ true → f place ≡ g place

-- an array's table has these cells
abbrev pub HasCells : Held → (List ℕ → Cell) → Type 0
HasCells h cells = SameCells h.document (cell h.document.elements.fill h.table) cells

-- an array was opened again, with its document and the cells that it had
pub record IsReopenedAs (h : Held) (order : SubchunkWriteOrder) (answer : Answer) (new : World) : Type 0 where
  pub is : answer ≡ done
  pub table : Table
  pub held : held_at h.path new.arrays ≡ Some (record h { order = order; table = table })
  pub cells : SameCells h.document (cell h.document.elements.fill table) (cell h.document.elements.fill h.table)

-- each array stands at a node path, says what its tree says, and its stored chunks show only its table's cells
abbrev pub HasTables : ReadsCodecs → World → Type 0
HasTables reads world = (path : List ℕ) (h : Held) → held_at path world.arrays ≡ Some h → (is_node_path h.path ≡ true) × (read_document reads h.tree ≡ Ok h.document) × IsTableAt h.path h.document world.store h.table

-- ---- documents and damage

-- where the caller's codecs are lawful, the documents that open are good
abbrev pub LawfulGood : Type 0
LawfulGood = (reads : ReadsCodecs) → ReadsLawful reads → ReadsGood reads

-- in one world, whatever is stored and whatever the options are: a read that has cells is refused neither for damage nor because a chunk doesn't fit, and none is refused for both
abbrev pub ReadsApart : Type 0
ReadsApart = (reads : ReadsCodecs) (old new other : World) (path : List ℕ) (target : Target) (options more : CodecOptions) (payload : Payload) (n m : ℕ)
    → (Step reads old (read path target options) (gives payload) new → Step reads old (read path target more) (refused cause.Damage n) other → ⊥)
    × (Step reads old (read path target options) (gives payload) new → Step reads old (read path target more) (refused cause.Fit n) other → ⊥)
    × (Step reads old (read path target options) (refused cause.Damage n) new → Step reads old (read path target more) (refused cause.Fit m) other → ⊥)

-- in one world, whatever is stored: two reads of the same cells give the same, whatever their options
abbrev pub ReadsAlike : Type 0
ReadsAlike = (reads : ReadsCodecs) (old new other : World) (path : List ℕ) (target : Target) (options more : CodecOptions) (payload again : Payload) (h : Held) → IsFormed target → held_at path old.arrays ≡ Some h
    → Step reads old (read path target options) (gives payload) new → Step reads old (read path target more) (gives again) other → cells_in h.document.elements.type payload ≡ cells_in h.document.elements.type again

-- a write puts no part of a chunk into the chunk's shard
abbrev pub PutsNoPart : World → List ℕ → Target → CodecOptions → Type 0
PutsNoPart world path target options = (h : Held) (region : Region) (chunk : List ℕ) (box : Region) → held_at path world.arrays ≡ Some h → IsTarget h.document.grid target region → IsInGrid h.document.grid chunk box
    → is_into_shard h.document options region box ≡ false

-- in one world, whatever is stored: a write that is done is not refused for damage, where it puts no part of a chunk into a shard
abbrev pub WritesApart : Type 0
WritesApart = (reads : ReadsCodecs) (old new other : World) (path : List ℕ) (target : Target) (given : GivenCells) (options : CodecOptions) (n : ℕ) → PutsNoPart old path target options
    → Step reads old (write path target given options) done new → Step reads old (write path target given options) (refused cause.Damage n) other → ⊥

-- in a sound world nothing is refused for damage or for a document that has changed
abbrev pub NeverDamaged : Type 0
NeverDamaged = (reads : ReadsCodecs) (old new : World) (request : Request) (n : ℕ) → ReadsGood reads
    → IsSound reads old → (Step reads old request (refused cause.Damage n) new → ⊥) × (Step reads old request (refused cause.DocumentChanged n) new → ⊥)

-- a command reads what is stored for chunks: a read, a compaction or a rewrite
abbrev pub ReadsChunks : Request → Type 0
ReadsChunks (read path target options) = Unit {0}
ReadsChunks (compact path chunk options) = Unit {0}
ReadsChunks (rewrite path options) = Unit {0}
ReadsChunks request = ⊥

-- in a sound world no read, no compaction and no rewrite is refused because a chunk does not fit
abbrev pub ReadsFit : Type 0
ReadsFit = (reads : ReadsCodecs) (old new : World) (request : Request) (n : ℕ) → IsSound reads old → ReadsChunks request → Step reads old request (refused cause.Fit n) new → ⊥

-- ---- which keys are foreign

-- over an empty store no key is foreign
abbrev pub EmptyOwned : Type 0
EmptyOwned = (count : ℕ) → OwnsAllKeys (world_over empty count)

-- a step makes no key foreign
abbrev pub StepsOwn : Type 0
StepsOwn = (reads : ReadsCodecs) (old new : World) (request : Request) (answer : Answer) (key : List ℕ) → Step reads old request answer new → IsOwned old key → IsOwned new key

-- nor does a run
abbrev pub RunsOwn : Type 0
RunsOwn = (reads : ReadsCodecs) (old new : World) (requests : List Request) (answers : List Answer) (key : List ℕ) → Run reads old requests answers new → IsOwned old key → IsOwned new key

-- no attributes of version 2 are stored under a path
abbrev pub HasNoAttributes : List ℕ → World → Type 0
HasNoAttributes path world = (other : List ℕ) → is_node_path other ≡ true → is_under path other ≡ true → get world.store (document_key other ZAttrs) ≡ None

-- where no key under a path is foreign, and no array is held at a related one, no chunk of it has a value: if its chunks' keys don't end as those of attributes, or no attributes are stored under the path
abbrev pub OwnedHasNoChunks : Type 0
OwnedHasNoChunks = (reads : ReadsCodecs) (world : World) (path : List ℕ) (document : Document) → IsSound reads world → OwnsKeysUnder path world
    → is_node_path path ≡ true → is_taken path world.arrays ≡ false → EndsOtherwise document.keys ⊎ HasNoAttributes path world → HasNoChunks path document world.store

-- in a sound world no array is opened at a path where none is held and the keys of whose documents, of either version, aren't foreign; nor is a document found there that doesn't open
abbrev pub OpensNone : Type 0
OpensNone = (reads : ReadsCodecs) (old new : World) (path : List ℕ) (order : SubchunkWriteOrder) → IsSound reads old → IsOwned old (document_key path ZarrJson) → IsOwned old (document_key path ZArray) → held_at path old.arrays ≡ None
    → (Step reads old (reopen path order) done new → ⊥) × ((n : ℕ) → Step reads old (reopen path order) (refused cause.Document n) new → ⊥)

-- ---- how arrays begin

-- where nothing is stored for a chunk, an array begins as fill
abbrev pub BeginsAsFill : Type 0
BeginsAsFill = (path : List ℕ) (document : Document) (store : StoreMap) (table : Table) (chunk : List ℕ) (box : Region) (place : List ℕ) → IsLossless document → IsTableAt path document store table
    → IsInGrid document.grid chunk box → stored_at path document store chunk ≡ None → is_in_box box.start box.shape place ≡ true → cell document.elements.fill table place ≡ document.elements.fill

-- where no chunk has a value, what is stored for an array stands for the fill value at each place
abbrev pub NoChunksAreFill : Type 0
NoChunksAreFill = (path : List ℕ) (document : Document) (store : StoreMap) → IsGood document → IsLossless document → HasNoChunks path document store → IsStoredAs path document store (λ place. document.elements.fill)

-- an array that is created begins with the cells that its chunks stand for that were left from before, whatever else is stored
abbrev pub CreatesCells : Type 0
CreatesCells = (reads : ReadsCodecs) (old new : World) (path : List ℕ) (document : Data) (order : SubchunkWriteOrder) (h : Held) (cells : List ℕ → Cell) → ReadsGood reads
    → Step reads old (create path document order) done new → held_at path new.arrays ≡ Some h → IsStoredAs path h.document old.store cells → HasCells h cells

-- where no chunk has a value, an array that is created begins as fill
abbrev pub CreatesFill : Type 0
CreatesFill = (reads : ReadsCodecs) (old new : World) (path : List ℕ) (document : Data) (order : SubchunkWriteOrder) (h : Held) → ReadsGood reads
    → Step reads old (create path document order) done new → held_at path new.arrays ≡ Some h → IsLossless h.document → HasNoChunks path h.document old.store → HasCells h (λ place. h.document.elements.fill)

-- a reopening at a path where no array is held begins an array with the document that is stored, and with the cells that its stored chunks stand for
abbrev pub OpensCells : Type 0
OpensCells = (reads : ReadsCodecs) (old new : World) (path : List ℕ) (order : SubchunkWriteOrder) (h : Held) (cells : List ℕ → Cell) → ReadsGood reads → held_at path old.arrays ≡ None
    → Step reads old (reopen path order) done new → held_at path new.arrays ≡ Some h → IsStoredAs path h.document old.store cells
    → HasDocument path h.tree old.store × (read_document reads h.tree ≡ Ok h.document) × HasCells h cells

-- ---- steps and runs in sound worlds

-- where no array is held all is sound, whatever is stored
abbrev pub NoArraysSound : Type 0
NoArraysSound = (reads : ReadsCodecs) (store : StoreMap) (count : ℕ) → IsSound reads (world_over store count)

-- a step that begins an array only over chunks that stand for cells leads from a sound world to a sound one
abbrev pub StepsSound : Type 0
StepsSound = (reads : ReadsCodecs) (old new : World) (request : Request) (answer : Answer) → ReadsGood reads → BeginsSound reads old request answer
    → IsSound reads old → Step reads old request answer new → IsSound reads new

-- and so does a run
abbrev pub RunsSound : Type 0
RunsSound = (reads : ReadsCodecs) (old new : World) (requests : List Request) (answers : List Answer) → ReadsGood reads
    → IsSound reads old → SoundRun reads old requests answers new → IsSound reads new

-- where no key is foreign of those that a command may begin an array over, a step begins one only over chunks that stand for cells
abbrev pub OwnedBegins : Type 0
OwnedBegins = (reads : ReadsCodecs) (old new : World) (request : Request) (answer : Answer) → ReadsGood reads → AsksOwned old request → AsksFaithful reads request answer
    → IsSound reads old → Step reads old request answer new → BeginsSound reads old request answer

-- a run whose creates name faithful documents leads from a sound world to a sound one, where no key is foreign of those that its commands may begin an array over
abbrev pub OwnedRunsSound : Type 0
OwnedRunsSound = (reads : ReadsCodecs) (old new : World) (requests : List Request) (answers : List Answer) → ReadsGood reads → All (AsksOwned old) requests → AllAskFaithful reads requests answers
    → IsSound reads old → Run reads old requests answers new → IsSound reads new

-- an answer is neither damage nor that a document has changed, and of a read, a compaction or a rewrite not that a chunk does not fit
abbrev pub IsUndamaged : Request → Answer → Type 0
IsUndamaged request (refused cause.Damage n) = ⊥
IsUndamaged request (refused cause.DocumentChanged n) = ⊥
IsUndamaged (read path target options) (refused cause.Fit n) = ⊥
IsUndamaged (compact path chunk options) (refused cause.Fit n) = ⊥
IsUndamaged (rewrite path options) (refused cause.Fit n) = ⊥
IsUndamaged request answer = Unit {0}

-- each command of some is answered so
abbrev pub AreUndamaged : List Request → List Answer → Type 0
AreUndamaged requests answers = (n : ℕ) (request : Request) (answer : Answer) → slice_get requests n ≡ Some request → slice_get answers n ≡ Some answer → IsUndamaged request answer

-- a run from a sound world in which each array begins over chunks that stand for cells: no command is refused for damage or for a document that has changed, and no read, compaction or rewrite because a chunk does not fit
abbrev pub RunsUndamaged : Type 0
RunsUndamaged = (reads : ReadsCodecs) (old new : World) (requests : List Request) (answers : List Answer) → ReadsGood reads
    → IsSound reads old → SoundRun reads old requests answers new → AreUndamaged requests answers

-- and so is none of a run whose creates name faithful documents, where no key is foreign of those that its commands may begin an array over
abbrev pub OwnedRunsUndamaged : Type 0
OwnedRunsUndamaged = (reads : ReadsCodecs) (old new : World) (requests : List Request) (answers : List Answer) → ReadsGood reads → All (AsksOwned old) requests → AllAskFaithful reads requests answers
    → IsSound reads old → Run reads old requests answers new → AreUndamaged requests answers

-- ---- one array, whatever is stored for the others

-- in a sound world each array is sound alone
abbrev pub SoundAlone : Type 0
SoundAlone = (reads : ReadsCodecs) (world : World) (path : List ℕ) (h : Held) → IsSound reads world → held_at path world.arrays ≡ Some h → IsSoundAlone reads world path

-- an array that begins over chunks that stand for cells is sound alone, whatever is stored for the others
abbrev pub BeginsAlone : Type 0
BeginsAlone = (reads : ReadsCodecs) (old new : World) (request : Request) (answer : Answer) (path : List ℕ) (h : Held) → ReadsGood reads → HasTables reads old → BeginsSound reads old request answer → held_at path old.arrays ≡ None
    → Step reads old request answer new → held_at path new.arrays ≡ Some h → IsSoundAlone reads new path

-- a step that opens no array at a related path keeps an array sound alone
abbrev pub StepsKeepSound : Type 0
StepsKeepSound = (reads : ReadsCodecs) (old new : World) (request : Request) (answer : Answer) (path : List ℕ) → ReadsGood reads → HasTables reads old → OpensApart path old request answer
    → IsSoundAlone reads old path → Step reads old request answer new → IsSoundAlone reads new path

-- no command on an array that is sound alone is refused for damage or for a document that has changed
abbrev pub AloneUndamaged : Type 0
AloneUndamaged = (reads : ReadsCodecs) (old new : World) (request : Request) (n : ℕ) → ReadsGood reads → IsSoundAlone reads old (path_of request)
    → (Step reads old request (refused cause.Damage n) new → ⊥) × (Step reads old request (refused cause.DocumentChanged n) new → ⊥)

-- ---- a session over the store of another one

-- a session that was closed while an array was sound, and whose store is given to another one, whatever is stored for the other arrays: where that one reopens the array's path, and the key of its document is no chunk's of an array that is held there, the array has its document and its cells again, running out of memory and refused store calls aside
abbrev pub ReopensAlike : Type 0
ReopensAlike = (reads : ReadsCodecs) (closed old new : World) (path : List ℕ) (h : Held) (order : SubchunkWriteOrder) (answer : Answer) → ReadsGood reads
    → held_at path closed.arrays ≡ Some h → IsSoundAt reads closed.store h → old.store ≡ closed.store → held_at path old.arrays ≡ None
    → (¬ IsChunkKeyIn old.arrays (version_key path h.tree)) → Step reads old (reopen path order) answer new → IsReopenedAs h order answer new ⊎ (answer ≡ refused cause.Memory 0) ⊎ (answer ≡ refused cause.Store 0)

-- an array is another one again: with its document and its cells
abbrev pub IsAgain : Held → Held → Type 0
IsAgain before h = (h ≡ record before { order = h.order; table = h.table }) × HasCells h (cell before.document.elements.fill before.table)

-- each array of a world is one of another over the same store, with the cells that it had there
pub record AreReopened (closed new : World) : Type 0 where
  pub apart : AreApart new.arrays
  pub store : new.store ≡ closed.store
  pub each : (path : List ℕ) (h : Held) → held_at path new.arrays ≡ Some h → (before : Held) × (held_at path closed.arrays ≡ Some before) × IsAgain before h

-- a world whose arrays are those of a sound one, or some of them, each with its cells, over the same store, is sound
abbrev pub ReopenedSound : Type 0
ReopenedSound = (reads : ReadsCodecs) (closed new : World) → IsSound reads closed → AreReopened closed new → IsSound reads new

-- once all are held again, no key is foreign that wasn't
abbrev pub ReopenedOwned : Type 0
ReopenedOwned = (closed new : World) (key : List ℕ) → AreReopened closed new → ((path : List ℕ) (before : Held) → held_at path closed.arrays ≡ Some before → (h : Held) × (held_at path new.arrays ≡ Some h))
    → IsOwned closed key → IsOwned new key

-- a command reopens a path that is held in a world
abbrev pub AsksAgain : World → Request → Type 0
AsksAgain closed (reopen path order) = (h : Held) × (held_at path closed.arrays ≡ Some h)
AsksAgain closed request = ⊥

-- a reopening is done, or memory or the store refused it
abbrev pub IsAnsweredAgain : Answer → Type 0
IsAnsweredAgain answer = (answer ≡ done) ⊎ (answer ≡ refused cause.Memory 0) ⊎ (answer ≡ refused cause.Store 0)

-- a session over the store of another one, which was closed in a sound world, whatever else that store holds: where it reopens paths that were held, each answer is that it is done, running out of memory and refused store calls aside. Each path for which it is done is held again, all arrays have the documents and the cells that they had, and all is sound
abbrev pub RunsReopen : Type 0
RunsReopen = (reads : ReadsCodecs) (closed new : World) (count : ℕ) (requests : List Request) (answers : List Answer) → ReadsGood reads → IsSound reads closed → All (AsksAgain closed) requests
    → Run reads (world_over closed.store count) requests answers new
    → AreReopened closed new × IsSound reads new × All IsAnsweredAgain answers
    × ((n : ℕ) (path : List ℕ) (order : SubchunkWriteOrder) → slice_get requests n ≡ Some (reopen path order) → slice_get answers n ≡ Some done → (h : Held) × (held_at path new.arrays ≡ Some h))

-- a command reopens a path, or names an unrelated one
abbrev pub AsksBeside : List ℕ → Request → Type 0
AsksBeside path (reopen other order) = (other ≡ path) ⊎ (is_related path other ≡ false)
AsksBeside path request = is_related path (path_of request) ≡ false

-- an array is held again, with its document and its cells, and is sound alone
pub record IsHeldAgain (reads : ReadsCodecs) (path : List ℕ) (before : Held) (world : World) : Type 0 where
  pub array : Held
  pub found : held_at path world.arrays ≡ Some array
  pub again : IsAgain before array
  pub sound : IsSoundAlone reads world path

-- a session over the store of another one, which was closed while the array at a path was sound, whatever is stored for the other arrays and whatever is done to them: each reopening of the path is done, running out of memory and refused store calls aside; and if one is done, then at the end of the run the array is held again, with its document and its cells
abbrev pub RunsReopenOne : Type 0
RunsReopenOne = (reads : ReadsCodecs) (closed new : World) (count : ℕ) (path : List ℕ) (h : Held) (requests : List Request) (answers : List Answer) → ReadsGood reads
    → held_at path closed.arrays ≡ Some h → IsSoundAt reads closed.store h → All (AsksBeside path) requests → Run reads (world_over closed.store count) requests answers new
    → (n : ℕ) (order : SubchunkWriteOrder) (answer : Answer) → slice_get requests n ≡ Some (reopen path order) → slice_get answers n ≡ Some answer
    → IsAnsweredAgain answer × (answer ≡ done → IsHeldAgain reads path h new)

-- a run is one of its first commands, and then one of the others, which goes on from the world that the first lead to
abbrev pub RunsGoOn : Type 0
RunsGoOn = (reads : ReadsCodecs) (old new : World) (requests others : List Request) (answers more : List Answer) → length requests ≡ length answers
    → Run reads old (requests ++ others) (answers ++ more) new → (mid : World) × Run reads old requests answers mid × Run reads mid others more new

-- ---- tables, whatever is stored

-- a step keeps that each array has its table, over any stored bytes
abbrev pub StepsShow : Type 0
StepsShow = (reads : ReadsCodecs) (old new : World) (request : Request) (answer : Answer) → HasTables reads old → Step reads old request answer new → HasTables reads new

-- whatever is stored, there is a table of the cells that it shows, all of them values of the type where each chunk with a value fits the chain
abbrev pub TableFound : Type 0
TableFound = (path : List ℕ) (document : Document) (store : StoreMap)
    → (table : Table) × IsTableAt path document store table × (IsGood document → ValuesFit path document store → AreValues document (cell document.elements.fill table))

-- ---- cells that are printed

-- after any run from a world without arrays, whatever was stored, the values of each array that is held are printed, save those whose text is none
abbrev pub RunsPrint : Type 0
RunsPrint = (reads : ReadsCodecs) (store : StoreMap) (count : ℕ) (requests : List Request) (answers : List Answer) (new : World) → Run reads (world_over store count) requests answers new
    → (path : List ℕ) (h : Held) → held_at path new.arrays ≡ Some h → PrintsValues h.document.elements.type

-- a read is answered with values of its array's type, which are printed, save those whose text is none
abbrev pub ReadsPrint : Type 0
ReadsPrint = (reads : ReadsCodecs) (old new : World) (path : List ℕ) (target : Target) (options : CodecOptions) (payload : Payload) → ReadsGood reads → HasTables reads old
    → IsFormed target → Step reads old (read path target options) (gives payload) new → GivesValues path payload old
