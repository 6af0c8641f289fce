-- The value at a key of a store, written in part.
use base.Fml.{GName}
use Rattle.std.specs.Prelude.{◌≡◌, ◌⊎◌, List, ℕ, Bool, Option, IsTrue}
use Rattle.std.specs.FinMap.{remove}
use Rattle.zarr_array_meaning.specs.StoreMaps.{StoreMap}
use Rattle.zarr_codecs_arrays.specs.declared.error.CodecError.{CodecError}
use Rattle.zarr_codecs_arrays.specs.declared.error.CodecError.TheVariants as codec
use Rattle.zarr_array_storage.specs.Calls.{Call}
use Rattle.zarr_array_storage.specs.PartialDecoders as decoders
use Rattle.zarr_array_storage.specs.PartialDecoders.{Answered, KeepsError, refused_at}
use Rattle.zarr_array_storage.specs.declared.error.StorageError.{StorageError}
use Rattle.zarr_array_storage.specs.declared.error.StorageError.TheVariants.{Io, InvalidMetadata, InvalidKey, InvalidByteRange, Other, Memory}
use Rattle.zarr_array_storage.specs.declared.storage_partial_encoder.StoragePartialEncoder.{StoragePartialEncoder}

-- the store in which a value is written in part
abbrev pub store_behind : {S : Type 0} → StoragePartialEncoder S → S
store_behind encoder = decoders.store_behind encoder.source

-- the reference to that store that was lent
abbrev pub reference_behind : {S : Type 0} → StoragePartialEncoder S → GName
reference_behind encoder = decoders.reference_behind encoder.source

-- the key of a value that is written in part
abbrev pub key_behind : {S : Type 0} → StoragePartialEncoder S → List ℕ
key_behind encoder = decoders.key_behind encoder.source

-- two stores hold the same at every key but one
abbrev pub SameElsewhere : List ℕ → StoreMap → StoreMap → Type 0
SameElsewhere key before after = remove before key ≡ remove after key

-- whether the second is the first after calls that read or write: at the same key of the same store, which, where it is honest, holds what it held at every other key
abbrev pub SamePlace : {S : Type 0} → (S → StoreMap) → (S → Bool) → StoragePartialEncoder S → StoragePartialEncoder S → Type 0
SamePlace held is_honest a b = (reference_behind a ≡ reference_behind b) × (key_behind a ≡ key_behind b) × (is_honest (store_behind a) ≡ is_honest (store_behind b)) × (IsTrue (is_honest (store_behind a)) → SameElsewhere (key_behind a) (held (store_behind a)) (held (store_behind b)))

-- why the store refused a call, if it refused one since that was last asked
abbrev pub refusal_behind : {S : Type 0} → StoragePartialEncoder S → Option StorageError
refusal_behind encoder = decoders.refusal_behind encoder.source

-- how many wrong byte ranges the store answered to calls that named none
abbrev pub misplaced_behind : {S : Type 0} → StoragePartialEncoder S → ℕ
misplaced_behind encoder = decoders.misplaced_behind encoder.source

-- an error that the store answered; or, where it takes no ranges and the value is to be set anew, that of the memory or of the range for which it isn't asked
abbrev pub Told : {S : Type 0} → (S → Call → S → Type 0) → StorageError → Type 0
Told calls e = Answered calls e ⊎ ((e ≡ Memory) ⊎ (e ≡ InvalidByteRange))

-- the error that is kept for `take_refusal` after calls is one that was told at one of them, where one was refused
abbrev pub KeepsTold : {S : Type 0} → (S → Call → S → Type 0) → (S → ℕ) → StoragePartialEncoder S → StoragePartialEncoder S → Type 0
KeepsTold calls refused a b = KeepsError (Told calls) (refusal_behind a) (refused_at refused a.source) (refusal_behind b) (refused_at refused b.source)

-- why ranges of a value aren't written where the store behind it refuses
abbrev pub target_error : StorageError → CodecError
target_error Io = codec.Source
target_error (InvalidMetadata key text) = codec.Source
target_error InvalidKey = codec.Source
target_error InvalidByteRange = codec.Size
target_error (Other text) = codec.Source
target_error Memory = codec.Memory
