-- Errors that are kept over calls.
use Rattle.std.proofs.Common.{◌∙◌, inl, inr, ℕ, Option, refl}
use Rattle.zarr_array_storage.specs.Calls.{Call}
use Rattle.zarr_array_storage.specs.PartialDecoders.{Answered, KeepsError}
use Rattle.zarr_array_storage.specs.PartialEncoders.{Told}
use Rattle.zarr_array_storage.specs.declared.error.StorageError.{StorageError}

-- where there was no call, what was kept is kept
pub kept_same : {told : StorageError → Type 0} {kept : Option StorageError} {count : ℕ} → KeepsError told kept count kept count
kept_same = inl (refl, refl)

-- calls after calls
pub kept_on : {told : StorageError → Type 0} {kept kept' kept'' : Option StorageError} {count count' count'' : ℕ} → KeepsError told kept count kept' count' → KeepsError told kept' count' kept'' count'' → KeepsError told kept count kept'' count''
kept_on (inl f) (inl h) = inl (h.0 ∙ f.0, h.1 ∙ f.1)
kept_on (inr f) (inl h) = inr (f.0, h.0 ∙ f.1, f.2)
kept_on f (inr h) = inr h

-- what the store answered was told
pub kept_told : {S : Type 0} {calls : S → Call → S → Type 0} {kept kept' : Option StorageError} {count count' : ℕ} → KeepsError (Answered calls) kept count kept' count' → KeepsError (Told calls) kept count kept' count'
kept_told (inl f) = inl f
kept_told (inr f) = inr (f.0, f.1, inl f.2)
