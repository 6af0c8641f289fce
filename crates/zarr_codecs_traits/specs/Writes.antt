-- What calls that write a value answer.
use Rattle.std.specs.Prelude.{◌≡◌, ◌⊎◌, ℕ, ◌+◌, ◌-◌, ◌^◌, min, List, Bool, true, false, Option, Result, Ok, Err, IsTrue}
use Rattle.zarr_codecs_arrays.specs.declared.error.CodecError.{CodecError}
use Rattle.zarr_codecs_arrays.specs.declared.error.CodecError.TheVariants as error
use Rattle.zarr_codecs_traits.specs.Patches.{Patch, any_too_far}
use Rattle.zarr_codecs_traits.specs.Sources.{ReadRefused, value_length}

-- the count of accepted writing calls after a call: one more where it was accepted (a count stands still at 2^128 - 1)
abbrev pub accepted_after : {A : Type 0} → ℕ → Result A CodecError → ℕ
accepted_after count (Ok value) = min (count + 1) (2 ^ 128 - 1)
accepted_after count (Err e) = count

-- whether the second is the count of bytes given after ranges were written: no byte was given to do so, or all those of the value once, from which a source that takes no ranges makes the one that it sets (a count stands still at 2^128 - 1)
abbrev pub IsGivenByPatching : Option (List ℕ) → ℕ → ℕ → Type 0
IsGivenByPatching contents count after = (after ≡ count) ⊎ (after ≡ min (count + value_length contents) (2 ^ 128 - 1))

-- how many bytes of a value a source gives at most where ranges of it are written: none, or, if it takes no ranges, all of them once
abbrev pub most_to_patch : Bool → Option (List ℕ) → ℕ
most_to_patch true contents = 0
most_to_patch false contents = value_length contents

-- why a value is not written, as why it is not read: what stands behind it refuses, or memory ran out
abbrev pub WriteRefused : {A : Type 0} → Result A CodecError → Type 0
WriteRefused result = ReadRefused result

-- why ranges are not written: one ends past 2^63 - 1 bytes, or the value is not written
abbrev pub PatchesRefused : {A : Type 0} → List Patch → Result A CodecError → Type 0
PatchesRefused patches (Err error.Size) = IsTrue (any_too_far patches)
PatchesRefused patches result = WriteRefused result
