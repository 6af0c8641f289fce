-- What a session may answer to a command, and what each command changes.
use Rattle.std.specs.Prelude.{◌≡◌, ◌⊎◌, ℕ, ◌<◌, List, take, true, false, Option, Some, None}
use Rattle.serde_json.specs.Data.{Data}
use Rattle.zarr_grids_boxes.specs.Boxes.{Region, product, places}
use Rattle.zarr_grids_chunks.specs.Grids.{intersecting}
use Rattle.zarr_grids_keys.specs.Paths.{is_node_path}
use Rattle.zarr_codecs_meaning.specs.Types.{Cell}
use Rattle.zarr_codecs_metadata.specs.Chains.{ReadsCodecs}
use Rattle.zarr_codecs_options.specs.declared.codec_options.CodecOptions.{CodecOptions}
use Rattle.zarr_array_meaning.specs.Rewriting.{HasTooLargeKeyed, keyed_chunks}
use Rattle.zarr_array_meaning.specs.StoreMaps.{counted}
use Rattle.zarr_array_meaning.specs.Texts.{HasNoDocument, StoresAttributes}
use Rattle.zarr_array_meaning.specs.Writes.{write_to}
use Rattle.zarr_array_meaning.specs.Written.{written_document}
use Rattle.zarr_run_meaning.specs.declared.cause.Cause.{Cause}
use Rattle.zarr_run_meaning.specs.declared.cause.Cause.TheVariants as cause
use Rattle.zarr_run_meaning.specs.Causes.{CreateRefuses, ReopenRefuses, WriteRefuses, ReadRefuses, EraseRefuses, EraseStops, CompactRefuses, RewriteRefuses, RewriteStopsAt, AreTargets, IsGiven, HasTooLarge, HasTooLargeChunk, StopsAt}
use Rattle.zarr_run_meaning.specs.Changes.{Creates, Reopens, Opens, Writes, WritesChunks, Reads, Erases, ErasesChunks, Compacts, Rewrites, RewritesChunks}
use Rattle.zarr_run_meaning.specs.Requests.{Target, WriteAsked, Refusal, refusal, cause_in, applied_in, Request, create, reopen, write, read, erase, compact, rewrite, path_of, Answer, done, cells, compacted, refused}
use Rattle.zarr_run_meaning.specs.Worlds.{Held, World, array_of, held_at}

-- the count of refused store calls where at most the call that a refusal tells of was refused: one more with the cause Store
abbrev pub refused_after : Cause → ℕ → ℕ
refused_after cause.Store count = counted count 1
refused_after c count = count

-- the count of refused store calls before and after a command that is refused: it rises by one with the cause Store; with any other it stays, or rises by one where a call was refused and what else was found comes first
abbrev pub CountsRefusal : Cause → ℕ → ℕ → Type 0
CountsRefusal cause.Store before after = after ≡ counted before 1
CountsRefusal c before after = (after ≡ before) ⊎ (after ≡ counted before 1)

-- a command that is refused before it changed anything
pub record Stays (c : Cause) (n : ℕ) (old new : World) : Type 0 where
  pub applied : n ≡ 0
  pub is : new ≡ record old { refused = new.refused }
  pub count : CountsRefusal c old.refused new.refused

-- a create of a document of version 2 that is refused once its attributes are stored: no array is added, and no other key changed
pub record LeavesAttributes (path : List ℕ) (tree : Data) (c : Cause) (old new : World) : Type 0 where
  pub by : (c ≡ cause.Store) ⊎ (c ≡ cause.Memory)
  pub fresh : HasNoDocument path old.store
  pub stores : StoresAttributes path tree old.store new.store
  pub is : new ≡ record old { store = new.store; refused = new.refused }
  pub count : CountsRefusal c old.refused new.refused

-- a write that stopped at a chunk: of the chunks that the box intersects exactly those before it are written
pub record WritesFirst (h : Held) (asked : WriteAsked) (why : Refusal) (old new : World) : Type 0 where
  pub box : Region
  pub values : List Cell
  pub is : IsGiven h.document asked.target asked.cells box values
  pub small : ¬ HasTooLarge h.document box
  pub stops : StopsAt (write_to (array_of h) box values asked.options) old.store (applied_in why) (cause_in why)
  pub writes : WritesChunks h (write_to (array_of h) box values asked.options) (take (applied_in why) (intersecting h.document.grid box)) old new
  pub count : CountsRefusal (cause_in why) old.refused new.refused

-- an erasure that stopped at a chunk: exactly the chunks before it are erased
pub record ErasesFirst (h : Held) (chunks : Region) (why : Refusal) (old new : World) : Type 0 where
  pub below : AreTargets h.document.grid chunks
  pub small : ¬ HasTooLargeChunk h.document chunks
  pub stops : EraseStops (cause_in why)
  pub fewer : applied_in why < product chunks.shape
  pub erases : ErasesChunks h (take (applied_in why) (places chunks.start chunks.shape)) old new
  pub count : CountsRefusal (cause_in why) old.refused new.refused

-- a rewrite that stopped once so many chunks were stored anew: exactly the first of those that have a key
pub record RewritesFirst (h : Held) (options : CodecOptions) (why : Refusal) (old new : World) : Type 0 where
  pub small : ¬ HasTooLargeKeyed (array_of h) old.store
  pub stops : RewriteStopsAt (array_of h) old.store options.store_empty_chunks (applied_in why) (cause_in why)
  pub rewrites : RewritesChunks h options (take (applied_in why) (keyed_chunks (array_of h) old.store)) old new
  pub count : CountsRefusal (cause_in why) old.refused new.refused

-- a refusal of a command on a held array: there is none, or the array refuses
abbrev pub RefusesHeld : Option Held → (Held → Refusal → World → World → Type 0) → Refusal → World → World → Type 0
RefusesHeld None refuses (refusal cause.NoArray n) old new = Stays cause.NoArray n old new
RefusesHeld None refuses why old new = ⊥
RefusesHeld (Some h) refuses why old new = refuses h why old new

-- a held array refuses a command before it changed anything
abbrev pub RefusesWhole : (Cause → Type 0) → Refusal → World → World → Type 0
RefusesWhole refuses (refusal c n) old new = refuses c × Stays c n old new

-- how a held array refuses a write: as a whole, or at a chunk
abbrev pub RefusesWrite : WriteAsked → Held → Refusal → World → World → Type 0
RefusesWrite asked h why old new = RefusesWhole (WriteRefuses h.document asked.target asked.cells) why old new ⊎ WritesFirst h asked why old new

-- how a held array refuses a read
abbrev pub RefusesRead : Target → Held → Refusal → World → World → Type 0
RefusesRead target h why old new = RefusesWhole (ReadRefuses h.path h.document old.store target) why old new

-- how a held array refuses an erasure: as a whole, or at a chunk
abbrev pub RefusesErase : Region → Held → Refusal → World → World → Type 0
RefusesErase chunks h why old new = RefusesWhole (EraseRefuses h.document chunks) why old new ⊎ ErasesFirst h chunks why old new

-- how a held array refuses a compaction
abbrev pub RefusesCompact : List ℕ → Held → Refusal → World → World → Type 0
RefusesCompact chunk h why old new = RefusesWhole (CompactRefuses (array_of h) old.store chunk) why old new

-- how a held array refuses a rewrite: before a chunk is stored anew, or after some
abbrev pub RefusesRewrite : CodecOptions → Held → Refusal → World → World → Type 0
RefusesRewrite options h why old new = RefusesWhole (RewriteRefuses (array_of h) old.store) why old new ⊎ RewritesFirst h options why old new

-- how a command with a node path is refused, running out of memory before anything changed aside
abbrev pub Refuses : ReadsCodecs → Request → Refusal → World → World → Type 0
Refuses reads (create path document order) (refusal c n) old new = CreateRefuses reads old path document c × (Stays c n old new ⊎ ((n ≡ 0) × LeavesAttributes path (written_document document) c old new))
Refuses reads (reopen path order) why old new = RefusesWhole (ReopenRefuses reads old path (held_at path old.arrays)) why old new
Refuses reads (write path target given options) why old new = RefusesHeld (held_at path old.arrays) (RefusesWrite (record { target = target; cells = given; options = options })) why old new
Refuses reads (read path target options) why old new = RefusesHeld (held_at path old.arrays) (RefusesRead target) why old new
Refuses reads (erase path chunks) why old new = RefusesHeld (held_at path old.arrays) (RefusesErase chunks) why old new
Refuses reads (compact path chunk options) why old new = RefusesHeld (held_at path old.arrays) (RefusesCompact chunk) why old new
Refuses reads (rewrite path options) why old new = RefusesHeld (held_at path old.arrays) (RefusesRewrite options) why old new

-- how a command is refused: its path comes first, and running out of memory before anything changed may come anywhere
abbrev pub RefusesAt : ReadsCodecs → Request → Refusal → World → World → Type 0
RefusesAt reads request (refusal cause.Path n) old new = (is_node_path (path_of request) ≡ false) × Stays cause.Path n old new
RefusesAt reads request (refusal cause.Memory n) old new = Stays cause.Memory n old new ⊎ ((is_node_path (path_of request) ≡ true) × Refuses reads request (refusal cause.Memory n) old new)
RefusesAt reads request why old new = (is_node_path (path_of request) ≡ true) × Refuses reads request why old new

-- a command that is done refused no store call
abbrev pub Done : (World → World → Type 0) → World → World → Type 0
Done change old new = change old new × (new.refused ≡ old.refused)

-- from old, a session may give this answer to the command and go on to new
abbrev pub Step : ReadsCodecs → World → Request → Answer → World → Type 0
Step reads old (create path document order) done new = Done (Creates reads (record { path = path; document = document; order = order })) old new
Step reads old (reopen path order) done new = Done (λ before after. Reopens path order before after ⊎ Opens reads path order before after) old new
Step reads old (write path target given options) done new = Done (Writes path (record { target = target; cells = given; options = options })) old new
Step reads old (erase path chunks) done new = Done (Erases path chunks) old new
Step reads old (compact path chunk options) (compacted changed) new = Done (Compacts path chunk changed) old new
Step reads old (rewrite path options) done new = Done (Rewrites path options) old new
Step reads old (read path target options) (cells payload) new = Reads path target payload old × (new ≡ old)
Step reads old request (refused c n) new = RefusesAt reads request (refusal c n) old new
Step reads old request answer new = ⊥
