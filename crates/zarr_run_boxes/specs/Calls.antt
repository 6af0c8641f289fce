-- Calls of a store that commands over one array make.
use Rattle.std.specs.Prelude.{ℕ, Result, Ok, Err}
use Rattle.zarr_array_storage.specs.declared.traits.ReadableStorageTraits as stores
use Rattle.zarr_array_core.specs.Calls.{Calls, KeptAtErr, calls_done}
use Rattle.zarr_run_meaning.specs.declared.cause.Cause.{Cause}
use Rattle.zarr_run_boxes.specs.Outcomes.{refused_by, refused_with}
use Rattle.zarr_run_boxes.specs.declared.refusal.Refusal.{Refusal}

-- a command on one chunk called a store: its refusal is counted, at most n writing calls are accepted, and a refused command accepts none and changes nothing
abbrev pub Called : {S A : Type 0} → stores.Ghosts S → ℕ → S → S → Result A Cause → Type 0
Called s n old new result = Calls s old new (refused_with (s.refused_calls old) result) (calls_done n result) × KeptAtErr s old new result

-- of so many chunks a command went through all, or through those before its refusal
abbrev pub chunks_done : {A : Type 0} → ℕ → Result A Refusal → ℕ
chunks_done many (Ok x) = many
chunks_done many (Err refusal) = refusal.applied

-- a command on n chunks called a store: in all, at most as many writing calls are accepted as it went through chunks
abbrev pub CalledMany : {S A : Type 0} → stores.Ghosts S → ℕ → S → S → Result A Refusal → Type 0
CalledMany s n old new result = Calls s old new (refused_by (s.refused_calls old) result) (chunks_done n result)
