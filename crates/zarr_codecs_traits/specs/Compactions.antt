-- What calls that compact answer.
use Rattle.std.specs.Prelude.{◌≡◌, ℕ, List, Option, Some, None, true, false, Result, Ok, Err, Vec}
use Rattle.std.specs.declared.alloc.Global.{Global}
use Rattle.zarr_codecs_meaning.specs.Chains.{Chain}
use Rattle.zarr_codecs_meaning.specs.Fits.{fits}
use Rattle.zarr_codecs_meaning.specs.Types.{DataType}
use Rattle.zarr_sharding_changes.specs.Compactions.{compaction, nothing_to_gain, compacted_to, damaged}
use Rattle.zarr_sharding_changes.specs.Refusals.{CompactionRefused, CompactionTooLong}
use Rattle.zarr_codecs_arrays.specs.declared.error.CodecError.{CodecError}
use Rattle.zarr_codecs_arrays.specs.declared.error.CodecError.TheVariants as error

-- what compaction makes of a value of an array that the chain suits, or why it makes nothing
abbrev pub Compacts : Chain → DataType → List ℕ → List ℕ → Result (Option (Vec ℕ Global)) CodecError → Type 0
Compacts chain type shape value (Ok None) = (fits chain type shape ≡ true) × (compaction chain shape value ≡ nothing_to_gain)
Compacts chain type shape value (Ok (Some made)) = (fits chain type shape ≡ true) × (compaction chain shape value ≡ compacted_to made.items)
Compacts chain type shape value (Err error.Fit) = fits chain type shape ≡ false
Compacts chain type shape value (Err error.Damage) = (fits chain type shape ≡ true) × (compaction chain shape value ≡ damaged)
Compacts chain type shape value (Err error.Codec) = (fits chain type shape ≡ true) × CompactionRefused chain shape value
Compacts chain type shape value (Err error.Size) = (fits chain type shape ≡ true) × CompactionTooLong chain shape value
Compacts chain type shape value (Err error.Memory) = Unit {0}
Compacts chain type shape value (Err e) = ⊥
