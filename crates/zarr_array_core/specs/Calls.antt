-- Calls of a store that calls over an array make, whatever their errors are.
use Rattle.std.specs.Prelude.{◌≡◌, ℕ, ◌+◌, ◌≤◌, Bool, if◌then◌else◌, IsTrue, OnErr, Result, Ok, Err}
use Rattle.zarr_array_meaning.specs.StoreMaps.{CountsUpTo}
use Rattle.zarr_array_storage.specs.declared.traits.ReadableStorageTraits as stores

-- calls of a store were made: it stays as honest as it was, so many calls are refused in all, and at most so many writing calls more are accepted
pub record Calls {S : Type 0} (s : stores.Ghosts S) (old new : S) (count writes : ℕ) : Type 0 where
  pub honest : s.is_honest new ≡ s.is_honest old
  pub refused : s.refused_calls new ≡ count
  pub counts : CountsUpTo writes (s.accepted_writes old) (s.accepted_writes new)

-- a store was only read: it holds what it held, stays as honest as it was and accepts no writing call, and so many calls are refused in all
pub record Reads {S : Type 0} (s : stores.Ghosts S) (old new : S) (count : ℕ) : Type 0 where
  pub held : s.held new ≡ s.held old
  pub honest : s.is_honest new ≡ s.is_honest old
  pub refused : s.refused_calls new ≡ count
  pub accepted : s.accepted_writes new ≡ s.accepted_writes old

-- an honest store gave at most so many bytes more
abbrev pub GivesAtMost : {S : Type 0} → stores.Ghosts S → ℕ → S → S → Type 0
GivesAtMost s most old new = IsTrue (s.is_honest old) → s.given_bytes new ≤ s.given_bytes old + most

-- an error changes nothing of what an honest store holds
abbrev pub KeptAtErr : {S A E : Type 0} → stores.Ghosts S → S → S → Result A E → Type 0
KeptAtErr s old new result = IsTrue (s.is_honest old) → OnErr result (s.held new ≡ s.held old)

-- the writing calls of a call on one chunk, of which one that is done makes at most n: one that is refused makes none
abbrev pub calls_done : {A E : Type 0} → ℕ → Result A E → ℕ
calls_done n (Ok x) = n
calls_done n (Err e) = 0

-- the writing calls of a call that says whether it changed a chunk: one where it did
abbrev pub calls_of : {E : Type 0} → Result Bool E → ℕ
calls_of (Ok changed) = if changed then 1 else 0
calls_of (Err e) = 0
