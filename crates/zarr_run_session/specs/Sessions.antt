-- Sessions in a world, and runs of commands.
use Rattle.std.specs.Prelude.{◌≡◌, ℕ, List, Option, option_map}
use Rattle.zarr_codecs_meaning.specs.Chains.{ByteCodec}
use Rattle.zarr_codecs_meaning.specs.Types.{DataType}
use Rattle.zarr_codecs_metadata.specs.Chains.{ReadsCodecs}
use Rattle.zarr_array_meaning.specs.StoreMaps.{StoreMap}
use Rattle.zarr_run_meaning.specs.Laws.{HasTables}
use Rattle.zarr_run_meaning.specs.Requests as ask
use Rattle.zarr_run_meaning.specs.Requests.{Request, Answer}
use Rattle.zarr_run_meaning.specs.Runs.{Run, world_over}
use Rattle.zarr_run_meaning.specs.Steps.{CountsRefusal}
use Rattle.zarr_run_meaning.specs.Worlds.{World}
use Rattle.zarr_run_opening.specs.Sessions.{Codecs, State, IsIn, array_at, document_of}
use Rattle.zarr_run_opening.specs.declared.held.HeldArray.{HeldArray}
use Rattle.zarr_run_session.specs.declared.session.Session.{Session}

-- what a session holds: its arrays, what its store holds, and how many of its calls the store has refused
abbrev pub state_of : {S B : Type 0} → (S → StoreMap) → (S → ℕ) → Session S B → State B
state_of held refused session = (session.arrays, (held session.store, refused session.store))

-- the store of a session
abbrev pub store_of : {S B : Type 0} → Session S B → S
store_of session = session.store

-- the data type of the array that a session holds at a path, if there is one
abbrev pub type_at : {S B : Type 0} → (B → ByteCodec) → Session S B → List ℕ → Option DataType
type_at {S} {B} meaning session path = option_map (λ (array : HeldArray B). (document_of meaning array).elements.type) (array_at session.arrays path)

-- the count of refused store calls before and after a command with this answer, whatever the store is: after a refusal as its cause says, after any other answer as before
abbrev pub CountsAnswer : Answer → ℕ → ℕ → Type 0
CountsAnswer (ask.refused c n) before after = CountsRefusal c before after
CountsAnswer answer before after = after ≡ before

-- commands with their answers
abbrev pub Exchanges : Type 0
Exchanges = List Request × List Answer

-- from each world that the old state is in, a run of commands with these answers leads to one that the new state is in
abbrev pub RunsFrom : {B : Type 0} → Codecs B → State B → Exchanges → State B → Type 0
RunsFrom codecs old es new = (before : World) → IsIn codecs.0 codecs.1 old before → (after : World) × Run codecs.1 before es.0 es.1 after × IsIn codecs.0 codecs.1 new after

-- what a store holds, and how many of its calls it has refused
abbrev pub Contents : Type 0
Contents = StoreMap × ℕ

-- a run of commands leads from a world with no array over the old contents to one over the new contents, whose arrays have tables
abbrev pub RunsOver : ReadsCodecs → Contents → Exchanges → Contents → Type 0
RunsOver reads old es new = (world : World) × Run reads (world_over old.0 old.1) es.0 es.1 world × (world.store ≡ new.0) × (world.refused ≡ new.1) × HasTables reads world
