-- The value at a key of a store, read in part.
use base.Fml.{GName}
use Rattle.std.specs.Prelude.{◌≡◌, ◌⊎◌, List, ℕ, Bool, Option, Some}
use Rattle.zarr_array_meaning.specs.StoreMaps.{StoreMap, counted}
use Rattle.zarr_codecs_arrays.specs.declared.error.CodecError.{CodecError}
use Rattle.zarr_codecs_arrays.specs.declared.error.CodecError.TheVariants as codec
use Rattle.zarr_array_storage.specs.Calls.{Call, IsRefusedWith}
use Rattle.zarr_array_storage.specs.declared.error.StorageError.{StorageError}
use Rattle.zarr_array_storage.specs.declared.error.StorageError.TheVariants.{Io, InvalidMetadata, InvalidKey, InvalidByteRange, Other, Memory}
use Rattle.zarr_array_storage.specs.declared.storage_partial_decoder.StoragePartialDecoder.{StoragePartialDecoder}

-- the store in which a value is read in part
abbrev pub store_behind : {S : Type 0} → StoragePartialDecoder S → S
store_behind decoder = decoder.store.now

-- the reference to that store that was lent
abbrev pub reference_behind : {S : Type 0} → StoragePartialDecoder S → GName
reference_behind decoder = decoder.store.ghost_name

-- the key of a value that is read in part
abbrev pub key_behind : {S : Type 0} → StoragePartialDecoder S → List ℕ
key_behind decoder = decoder.key.now

-- why the store refused a call, if it refused one since that was last asked
abbrev pub refusal_behind : {S : Type 0} → StoragePartialDecoder S → Option StorageError
refusal_behind decoder = decoder.refusal

-- how many wrong byte ranges the store answered to calls that named none, as no honest store does
abbrev pub misplaced_behind : {S : Type 0} → StoragePartialDecoder S → ℕ
misplaced_behind decoder = decoder.misplaced

-- the store refused some call with this error
abbrev pub Answered : {S : Type 0} → (S → Call → S → Type 0) → StorageError → Type 0
Answered {S = S} calls e = (old new : S) × (made : Call) × calls old made new × IsRefusedWith made e

-- the error that is kept after calls is the one from before, where no more calls were refused, or else one that was told meanwhile
abbrev pub KeepsError : (StorageError → Type 0) → Option StorageError → ℕ → Option StorageError → ℕ → Type 0
KeepsError told kept count kept' count' = ((kept' ≡ kept) × (count' ≡ count)) ⊎ ((e : StorageError) × (kept' ≡ Some e) × told e)

-- how many calls were refused where a value is read: those of the store, and those that the store refused with a wrong range though they named none
abbrev pub refused_at : {S : Type 0} → (S → ℕ) → StoragePartialDecoder S → ℕ
refused_at refused decoder = counted (misplaced_behind decoder) (refused (store_behind decoder))

-- the error that is kept for `take_refusal` after calls is one that the store answered to one of them, where it refused one
abbrev pub KeepsAnswer : {S : Type 0} → (S → Call → S → Type 0) → (S → ℕ) → StoragePartialDecoder S → StoragePartialDecoder S → Type 0
KeepsAnswer calls refused a b = KeepsError (Answered calls) (refusal_behind a) (refused_at refused a) (refusal_behind b) (refused_at refused b)

-- whether the second is the first after calls that read: at the same key of the same store, by what that holds, its honesty, and the writing calls that it accepted
abbrev pub SameSource : {S : Type 0} → (S → StoreMap) → (S → Bool) → (S → ℕ) → StoragePartialDecoder S → StoragePartialDecoder S → Type 0
SameSource held is_honest accepted a b = (reference_behind a ≡ reference_behind b) × (key_behind a ≡ key_behind b) × (held (store_behind a) ≡ held (store_behind b)) × (is_honest (store_behind a) ≡ is_honest (store_behind b)) × (accepted (store_behind a) ≡ accepted (store_behind b))

-- that number after a call that named no range was refused for this reason
abbrev pub misplaced_after : ℕ → StorageError → ℕ
misplaced_after count InvalidByteRange = counted count 1
misplaced_after count e = count

-- why a value isn't read or written where the store behind it refuses a call that names no range
abbrev pub whole_error : StorageError → CodecError
whole_error Memory = codec.Memory
whole_error e = codec.Source

-- why ranges of a value aren't read where the store behind it refuses
abbrev pub source_error : StorageError → CodecError
source_error Io = codec.Source
source_error (InvalidMetadata key text) = codec.Source
source_error InvalidKey = codec.Source
source_error InvalidByteRange = codec.Damage
source_error (Other text) = codec.Source
source_error Memory = codec.Memory
