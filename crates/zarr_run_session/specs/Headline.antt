-- The headline, of one command and of a run: each array answers as a table of its own, and a rewrite leaves what storing the cells of that table afresh leaves. And tight layout.
use Rattle.std.specs.Prelude.{◌≡◌, ◌⊎◌, ℕ, List, [], ◌∷◌, ◌++◌, length, take, All, bytes_eq, Bool, true, false, if◌then◌else◌, Some, None}
use Rattle.std.specs.FinMap.{empty}
use Rattle.std.specs.Option.{option_map_or}
use Rattle.zarr_codecs_meaning.specs.Fits.{is_plain}
use Rattle.zarr_codecs_metadata.specs.Chains.{ReadsCodecs}
use Rattle.zarr_codecs_options.specs.declared.codec_options.CodecOptions.{CodecOptions}
use Rattle.zarr_array_meaning.specs.Rewriting.{keyed_chunks}
use Rattle.zarr_array_meaning.specs.StoreMaps.{StoreMap}
use Rattle.zarr_run_meaning.specs.declared.cause.Cause.TheVariants as cause
use Rattle.zarr_run_meaning.specs.Laws.{HasCells, IsUndamaged}
use Rattle.zarr_run_meaning.specs.Requests.{Request, create, reopen, compact, rewrite, path_of, Answer, done, compacted, refused}
use Rattle.zarr_run_meaning.specs.Rewrites.{IsHeldStill, IsCanonHeld, IsCanonAlone, AreCanonFirst, LeavesCells, ReopensApart}
use Rattle.zarr_run_meaning.specs.Runs.{world_over}
use Rattle.zarr_run_meaning.specs.Sound.{IsSound, IsSoundAlone, BeginsSound, OpensApart, HasNoChunks, AsksOwned, OwnsKeysUnder, AsksFaithful, AllAskFaithful}
use Rattle.zarr_run_meaning.specs.Steps.{Step}
use Rattle.zarr_run_meaning.specs.Tight.{IsTightAlone, IsTightHeld, IsEncodedAt, AllAskRowMajor}
use Rattle.zarr_run_meaning.specs.Worlds.{Held, World, array_of, held_at, is_row_major, writes_exactly}
use Rattle.zarr_run_opening.specs.Sessions.{Codecs, State, IsIn, Exchange}
use Rattle.zarr_run_session.specs.Sessions.{Exchanges, Contents}

-- ---- what a command leaves

-- an answer is neither damage nor that a document has changed
abbrev pub IsIntact : Answer → Type 0
IsIntact (refused cause.Damage n) = ⊥
IsIntact (refused cause.DocumentChanged n) = ⊥
IsIntact answer = Unit {0}

-- what a rewrite leaves of an array by its answer: where it is done, what storing the cells of its table afresh leaves; where it is refused, just that for the first chunks that had a key, and all other keys as they were
abbrev pub LeavesCanon : Held → Answer → StoreMap → StoreMap → Type 0
LeavesCanon h done old new = IsCanonHeld new h
LeavesCanon h (refused c n) old new = AreCanonFirst h (take n (keyed_chunks (array_of h) old)) old new
LeavesCanon h answer old new = ⊥

-- a compaction of the array at a path that writes a chunk anew leaves just what encoding the chunk's cells writes
abbrev pub CompactsAfresh : List ℕ → Held → Request → Answer → StoreMap → Type 0
CompactsAfresh path h (compact other chunk options) (compacted true) store = other ≡ path → IsEncodedAt h store chunk
CompactsAfresh path h request answer store = Unit {0}

-- ---- what a run leaves

-- an array whose create is done begins as fill
abbrev pub BeginsFill : Request → Answer → World → Type 0
BeginsFill (create path document order) done new = (h : Held) × (held_at path new.arrays ≡ Some h) × HasCells h (λ place. h.document.elements.fill)
BeginsFill request answer new = Unit {0}

-- a step to a sound world, whose answer is no damage; an array that it creates begins as fill
pub record TableStep (reads : ReadsCodecs) (old : World) (request : Request) (answer : Answer) (new : World) : Type 0 where
  pub step : Step reads old request answer new
  pub sound : IsSound reads new
  pub undamaged : IsUndamaged request answer
  pub fill : BeginsFill request answer new

-- a run through sound worlds, in which no answer is damage: each array answers as a table of its own that begins as fill, and its stored chunks stand for the cells of that table
abbrev pub TableRun : ReadsCodecs → World → List Request → List Answer → World → Type 0
TableRun reads old [] [] new = new ≡ old
TableRun reads old (request ∷ requests) (answer ∷ answers) new = (mid : World) × TableStep reads old request answer mid × TableRun reads mid requests answers new
TableRun reads old [] (answer ∷ answers) new = ⊥
TableRun reads old (request ∷ requests) [] new = ⊥

-- whether the array at a path is written row-major
abbrev pub is_row_major_at : List ℕ → World → Bool
is_row_major_at path world = option_map_or (λ (h : Held). is_row_major h.order) (held_at path world.arrays) false

-- whether the array at a path is written row-major after a command, by whether it was before
abbrev pub is_row_major_by : List ℕ → Request → Answer → Bool → Bool
is_row_major_by path (create other document order) done was = if bytes_eq other path then is_row_major order else was
is_row_major_by path (reopen other order) done was = if bytes_eq other path then is_row_major order else was
is_row_major_by path request answer was = was

-- whether the array at a path is written row-major after some commands: the last create or reopening of the path that is done says it
abbrev pub is_row_major_after : List ℕ → List Request → List Answer → Bool → Bool
is_row_major_after path [] answers was = was
is_row_major_after path (request ∷ requests) [] was = was
is_row_major_after path (request ∷ requests) (answer ∷ answers) was = is_row_major_after path requests answers (is_row_major_by path request answer was)

-- the array at a path, if one is held there, has a chain that makes no shard
abbrev pub IsPlainThere : List ℕ → World → Type 0
IsPlainThere path world = (h : Held) → held_at path world.arrays ≡ Some h → is_plain h.document.chain ≡ true

-- among the commands is a rewrite of a path that stores no empty chunk and is done, in row-major order or of an array whose chain makes no shard; those after it leave the cells of the array alone
pub record IsRewrittenLast (path : List ℕ) (before : World) (es : Exchanges) (after : World) : Type 0 where
  pub options : CodecOptions
  pub unstored : options.store_empty_chunks ≡ false
  pub first : Exchanges
  pub last : Exchanges
  pub requests : es.0 ≡ first.0 ++ rewrite path options ∷ last.0
  pub answers : es.1 ≡ first.1 ++ done ∷ last.1
  pub many : length first.0 ≡ length first.1
  pub exact : (is_row_major_after path first.0 first.1 (is_row_major_at path before) ≡ true) ⊎ IsPlainThere path after
  pub leaves : All (LeavesCells path) last.0

-- the array at a path is held at the end, if it was rewritten last, and the store holds for it what storing the cells of its table afresh leaves
abbrev pub EndsCanonAt : List ℕ → World → Exchanges → World → Type 0
EndsCanonAt path before es after = IsRewrittenLast path before es after → (h : Held) × (held_at path after.arrays ≡ Some h) × IsCanonHeld after.store h

-- so it is at each path
abbrev pub EndsCanon : World → Exchanges → World → Type 0
EndsCanon before es after = (path : List ℕ) → EndsCanonAt path before es after

-- what is stored for the array at a path, if one is held there, is tight, and its chunks' values depend on their cells alone
abbrev pub IsTightExactly : List ℕ → World → Type 0
IsTightExactly path world = (h : Held) → held_at path world.arrays ≡ Some h → (writes_exactly h ≡ true) × IsTightHeld world.store h

-- what is stored for the array at a path is tight at the end, if it was or begins so, where each create and reopening of it that is done asks for row-major order, or its chain makes no shard
abbrev pub EndsTightAt : List ℕ → World → Exchanges → World → Type 0
EndsTightAt path before es after = AllAskRowMajor path es.0 es.1 ⊎ IsPlainThere path after → IsTightExactly path before → IsTightExactly path after

-- at the end what the last rewrite of each array left stands, and what was tight is so still
pub record EndsTables (before : World) (es : Exchanges) (after : World) : Type 0 where
  pub canon : EndsCanon before es after
  pub tight : (path : List ℕ) → EndsTightAt path before es after

-- these commands are answered so by such a run, to a world of which this holds
abbrev pub AnswersAsTables : ReadsCodecs → World → Exchanges → (World → Type 0) → Type 0
AnswersAsTables reads before es Holds = (after : World) × TableRun reads before es.0 es.1 after × EndsTables before es after × Holds after

-- ---- what a run leaves of one array, whatever is stored for the others

-- the array at a path is sound alone; or none is held there, and no key under the path is foreign
abbrev pub IsAloneOrFree : ReadsCodecs → List ℕ → World → Type 0
IsAloneOrFree reads path world = IsSoundAlone reads world path ⊎ ((held_at path world.arrays ≡ None) × OwnsKeysUnder path world)

-- each create of a path that is done names a faithful document
abbrev pub NamesFaithful : ReadsCodecs → List ℕ → List Request → List Answer → Type 0
NamesFaithful reads path [] answers = Unit {0}
NamesFaithful reads path (request ∷ requests) [] = Unit {0}
NamesFaithful reads path (request ∷ requests) (answer ∷ answers) = (path_of request ≡ path → AsksFaithful reads request answer) × NamesFaithful reads path requests answers

-- what is asked of a run for the array at a path: it is sound alone, or none is held there and no key under the path is foreign; each create of it that is done names a faithful document, and each reopening names the path or an unrelated one
pub record AsksAlone (reads : ReadsCodecs) (path : List ℕ) (before : World) (es : Exchanges) : Type 0 where
  pub there : IsAloneOrFree reads path before
  pub faithful : NamesFaithful reads path es.0 es.1
  pub apart : All (ReopensApart path) es.0

-- a step after which the array at a path is sound alone, or the path is free still; where the command names the path, its answer is neither damage nor that a document has changed, and an array that it creates begins as fill
pub record AloneStep (reads : ReadsCodecs) (path : List ℕ) (old : World) (e : Exchange) (new : World) : Type 0 where
  pub step : Step reads old e.0 e.1 new
  pub there : IsAloneOrFree reads path new
  pub intact : path_of e.0 ≡ path → IsIntact e.1
  pub fill : path_of e.0 ≡ path → BeginsFill e.0 e.1 new

-- a run of such steps
abbrev pub RunOf : (World → Exchange → World → Type 0) → World → List Request → List Answer → World → Type 0
RunOf Steps old [] [] new = new ≡ old
RunOf Steps old (request ∷ requests) (answer ∷ answers) new = (mid : World) × Steps old (request, answer) mid × RunOf Steps mid requests answers new
RunOf Steps old [] (answer ∷ answers) new = ⊥
RunOf Steps old (request ∷ requests) [] new = ⊥

-- at the end the array at a path is sound alone, or the path is free; what its last rewrite left stands, and what was canonical before, if no cell of it changed; and its layout is tight, if it was or begins so, in row-major order or without shards
pub record EndsAlone (reads : ReadsCodecs) (path : List ℕ) (before : World) (es : Exchanges) (after : World) : Type 0 where
  pub there : IsAloneOrFree reads path after
  pub canon : EndsCanonAt path before es after
  pub still : IsCanonAlone reads before path → All (LeavesCells path) es.0 → IsCanonAlone reads after path
  pub tight : EndsTightAt path before es after

-- these commands are answered so by such a run, to a world of which this holds
abbrev pub AnswersAlone : ReadsCodecs → List ℕ → World → Exchanges → (World → Type 0) → Type 0
AnswersAlone reads path before es Holds = (after : World) × RunOf (AloneStep reads path) before es.0 es.1 after × EndsAlone reads path before es after × Holds after

-- ---- one command of a session

-- from a world, a step with this answer leads to one that the new state is in, and of which this holds
abbrev pub StepsTo : {B : Type 0} → Codecs B → World → Exchange → State B → (World → Type 0) → Type 0
StepsTo codecs before e new Holds = (after : World) × Step codecs.1 before e.0 e.1 after × IsIn codecs.0 codecs.1 new after × Holds after

-- the tables: from each sound world that the old state is in, a command that begins an array only over chunks that stand for cells leads to a sound world, and isn't refused for damage
abbrev pub KeepsTables : {B : Type 0} → Codecs B → State B → Exchange → State B → Type 0
KeepsTables codecs old e new = (before : World) → IsIn codecs.0 codecs.1 old before → IsSound codecs.1 before → BeginsSound codecs.1 before e.0 e.1
    → StepsTo codecs before e new (IsSound codecs.1) × IsUndamaged e.0 e.1

-- an array that is sound alone stays so, whatever is stored for the others, if the command opens none at a related path, and no command on it is refused for damage
abbrev pub StaysAlone : {B : Type 0} → Codecs B → State B → Exchange → State B → Type 0
StaysAlone codecs old e new = (before : World) (path : List ℕ) → IsIn codecs.0 codecs.1 old before → IsSoundAlone codecs.1 before path → OpensApart path before e.0 e.1
    → StepsTo codecs before e new (λ after. IsSoundAlone codecs.1 after path) × (path_of e.0 ≡ path → IsIntact e.1)

-- an array is sound alone, and what is stored for it is tight if no chunk of it had a value
abbrev pub HasBegun : ReadsCodecs → Held → StoreMap → World → Type 0
HasBegun reads h store new = IsSoundAlone reads new h.path × (HasNoChunks h.path h.document store → IsTightHeld new.store h)

-- an array that begins over chunks that stand for cells is sound alone, whatever is stored for the others, and tight if no chunk of it had a value
abbrev pub BeginsAlone : {B : Type 0} → Codecs B → State B → Exchange → State B → Type 0
BeginsAlone codecs old e new = (before : World) → IsIn codecs.0 codecs.1 old before → held_at (path_of e.0) before.arrays ≡ None → BeginsSound codecs.1 before e.0 e.1
    → StepsTo codecs before e new (λ after. (h : Held) → held_at (path_of e.0) after.arrays ≡ Some h → HasBegun codecs.1 h before.store after)

-- one table, whatever is stored for the other arrays: it begins so, and stays
abbrev pub KeepsAlone : {B : Type 0} → Codecs B → State B → Exchange → State B → Type 0
KeepsAlone codecs old e new = StaysAlone codecs old e new × BeginsAlone codecs old e new

-- rewrites: one that stores no empty chunk, of an array that is sound alone and whose chunks' values depend on their cells alone, leaves the array sound alone, changes no cell and leaves what storing the cells of its table afresh leaves; if it is refused, just that for the first chunks that had a key
abbrev pub RewritesAfresh : {B : Type 0} → Codecs B → State B → Exchange → State B → Type 0
RewritesAfresh codecs old e new = (before : World) (path : List ℕ) (options : CodecOptions) → IsIn codecs.0 codecs.1 old before → (alone : IsSoundAlone codecs.1 before path) → writes_exactly alone.array ≡ true → options.store_empty_chunks ≡ false
    → e.0 ≡ rewrite path options → StepsTo codecs before e new (λ after. IsSoundAlone codecs.1 after path × IsHeldStill path alone.array after × LeavesCanon alone.array e.1 before.store after.store)

-- tight layout: what is stored for an array that is sound alone, and whose chunks' values depend on their cells alone, stays tight, if the command opens none at a related path; and a compaction that writes a chunk anew leaves just what encoding the chunk's cells writes
abbrev pub KeepsTight : {B : Type 0} → Codecs B → State B → Exchange → State B → Type 0
KeepsTight codecs old e new = (before : World) (path : List ℕ) → IsIn codecs.0 codecs.1 old before → (tight : IsTightAlone codecs.1 before path) → writes_exactly tight.sound.array ≡ true → OpensApart path before e.0 e.1
    → StepsTo codecs before e new (λ after. IsTightAlone codecs.1 after path × CompactsAfresh path tight.sound.array e.0 e.1 after.store)

-- ---- runs of a session

-- what is asked of a run: the creates that are done name faithful documents, and no key is foreign of those that the commands may begin an array over
pub record AsksFresh (reads : ReadsCodecs) (before : World) (es : Exchanges) : Type 0 where
  pub faithful : AllAskFaithful reads es.0 es.1
  pub owned : All (AsksOwned before) es.0

-- the tables: from each sound world that the old state is in, a run of tables with these answers leads to one that the new state is in
abbrev pub TablesFrom : {B : Type 0} → Codecs B → State B → Exchanges → State B → Type 0
TablesFrom codecs old es new = (before : World) → IsIn codecs.0 codecs.1 old before → IsSound codecs.1 before → AsksFresh codecs.1 before es
    → AnswersAsTables codecs.1 before es (IsIn codecs.0 codecs.1 new)

-- one array, whatever is stored for the others and done to them: from each world that the old state is in, where the array at a path is sound alone or the path is free, the commands are answered so that it stays sound alone
abbrev pub AloneFrom : {B : Type 0} → Codecs B → State B → Exchanges → State B → Type 0
AloneFrom codecs old es new = (before : World) (path : List ℕ) → IsIn codecs.0 codecs.1 old before → AsksAlone codecs.1 path before es
    → AnswersAlone codecs.1 path before es (IsIn codecs.0 codecs.1 new)

-- ---- runs over a store

-- what is asked of a run over a store: the creates that are done name faithful documents, and the store is empty, or no key has a value of those that the commands may begin an array over, `.zattrs` of nodes aside
pub record BeginsFresh (reads : ReadsCodecs) (old : Contents) (es : Exchanges) : Type 0 where
  pub faithful : AllAskFaithful reads es.0 es.1
  pub free : (old.0 ≡ empty) ⊎ All (AsksOwned (world_over old.0 old.1)) es.0

-- a world is over these contents
abbrev pub IsOver : Contents → World → Type 0
IsOver contents world = (world.store ≡ contents.0) × (world.refused ≡ contents.1)

-- the tables: from the world without arrays over the old contents, a run of tables with these answers leads to one over the new contents
abbrev pub TablesOver : ReadsCodecs → Contents → Exchanges → Contents → Type 0
TablesOver reads old es new = BeginsFresh reads old es → AnswersAsTables reads (world_over old.0 old.1) es (IsOver new)

-- one array, whatever is stored for the others and done to them: at a path under which no key has a value, the commands are answered so that an array that begins there stays sound alone
abbrev pub AloneOver : ReadsCodecs → Contents → Exchanges → Contents → Type 0
AloneOver reads old es new = (path : List ℕ) → AsksAlone reads path (world_over old.0 old.1) es → AnswersAlone reads path (world_over old.0 old.1) es (IsOver new)
