-- Calls of the store in a command.
use Rattle.std.specs.Prelude.{ℕ, Result, Ok, Err, IsErr}
use Rattle.serde_json.specs.Data.{Data}
use Rattle.zarr_codecs_metadata.specs.Chains.{ReadsCodecs}
use Rattle.zarr_array_meaning.specs.Documents.{read_document}
use Rattle.zarr_run_meaning.specs.Steps.{refused_after}
use Rattle.zarr_run_meaning.specs.declared.cause.Cause.{Cause}
use Rattle.zarr_run_meaning.specs.declared.cause.Cause.TheVariants as cause

-- the count of refused store calls after a part of a command with this result
abbrev pub refused_by : {A : Type 0} → ℕ → Result A Cause → ℕ
refused_by count (Ok x) = count
refused_by count (Err c) = refused_after c count

-- the causes that a call of the store gives
abbrev pub IsStoreCause : Cause → Type 0
IsStoreCause cause.Store = Unit {0}
IsStoreCause cause.Memory = Unit {0}
IsStoreCause c = ⊥

-- the causes that a call of any store gives: one that is not honest may answer a wrong range where none was asked for
abbrev pub IsCallCause : Cause → Type 0
IsCallCause cause.Store = Unit {0}
IsCallCause cause.Memory = Unit {0}
IsCallCause cause.Damage = Unit {0}
IsCallCause c = ⊥

-- the causes of a document that is not read
abbrev pub DocumentRefused : ReadsCodecs → Data → Cause → Type 0
DocumentRefused reads tree cause.Document = IsErr (read_document reads tree)
DocumentRefused reads tree cause.Memory = Unit {0}
DocumentRefused reads tree c = ⊥
