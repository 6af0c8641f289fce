-- What a session keeps to at each command.
use Rattle.std.specs.Prelude.{◌≡◌, IsTrue, Bool, List, map}
use Rattle.zarr_array_storage.specs.declared.traits.ReadableStorageTraits as stores
use Rattle.zarr_codecs_traits.specs.declared.bytes_to_bytes.BytesToBytesCodecTraits as byte_codecs
use Rattle.zarr_run_commands.specs.Commands.{asked, answered}
use Rattle.zarr_run_commands.specs.declared.command.Command.{Command}
use Rattle.zarr_run_commands.specs.declared.command.Reply.{Reply}
use Rattle.zarr_run_meaning.specs.Counts.{ReadsAtMost, WritesAtMost}
use Rattle.zarr_run_meaning.specs.Requests.{Request, over_store}
use Rattle.zarr_run_meaning.specs.Worlds.{World}
use Rattle.zarr_run_opening.specs.Sessions.{Codecs, State, IsIn, Exchange, StepsFrom}
use Rattle.zarr_run_session.specs.Sessions.{CountsAnswer, Exchanges, state_of}
use Rattle.zarr_run_session.specs.declared.session.Session.{Session}

-- what a command asks over a store that takes ranges of a value, or doesn't
abbrev pub asked_over : Bool → Command → Request
asked_over takes_ranges command = over_store takes_ranges (asked command)

-- what a command asks over such a store, with its answer
abbrev pub exchange_over : Bool → Command → Reply → Exchange
exchange_over takes_ranges command reply = (asked_over takes_ranges command, answered reply)

-- what commands ask over such a store, with their answers
abbrev pub exchanges_over : Bool → List Command → List Reply → Exchanges
exchanges_over takes_ranges commands replies = (map (asked_over takes_ranges) commands, map answered replies)

-- what a session's store is, and what the caller's codecs are
abbrev pub Traits : Type 0 → Type 0 → Type 1
Traits S B = stores.Ghosts S × byte_codecs.Ghosts B

-- over an honest store this holds of what a session holds before and after a command with its answer
abbrev pub OverHonest : {S B : Type 0} → Traits S B → Session S B → Exchange → Session S B → (Codecs B → State B → Exchange → State B → Type 0) → Type 0
OverHonest t old e new Holds = IsTrue (t.0.is_honest old.store) → Holds (t.1.meaning, t.1.reads) (state_of t.0.held t.0.refused_calls old) e (state_of t.0.held t.0.refused_calls new)

-- over an honest store the command makes at most as many writing calls as its answer says in each world that the session was in
abbrev pub BoundsWrites : {S B : Type 0} → Traits S B → Session S B → Exchange → Session S B → Type 0
BoundsWrites t old e new = IsTrue (t.0.is_honest old.store) → (world : World) → IsIn t.1.meaning t.1.reads (state_of t.0.held t.0.refused_calls old) world
    → WritesAtMost world e.0 e.1 (t.0.accepted_writes old.store) (t.0.accepted_writes new.store)

-- over an honest store, a command that is a read takes at most as many bytes of it as its answer and each world that the session was in allow
abbrev pub BoundsReads : {S B : Type 0} → Traits S B → Session S B → Exchange → Session S B → Type 0
BoundsReads t old e new = IsTrue (t.0.is_honest old.store) → (world : World) → IsIn t.1.meaning t.1.reads (state_of t.0.held t.0.refused_calls old) world
    → ReadsAtMost world e.0 e.1 (t.0.given_bytes old.store) (t.0.given_bytes new.store)

-- a command was run: over an honest store it is a step with few writing calls, and takes few bytes where it reads; and whatever the store is, it stays as honest as it was, and its refused calls are counted as the answer says
pub record Ran {S B : Type 0} (t : Traits S B) (old : Session S B) (e : Exchange) (new : Session S B) : Type 0 where
  pub steps : OverHonest t old e new StepsFrom
  pub writes : BoundsWrites t old e new
  pub given : BoundsReads t old e new
  pub honest : t.0.is_honest new.store ≡ t.0.is_honest old.store
  pub refused : CountsAnswer e.1 (t.0.refused_calls old.store) (t.0.refused_calls new.store)
