-- Which refused calls count, and which are about a byte range.
use Rattle.std.specs.Prelude.{ℕ, Bool, true, false, if◌then◌else◌, Result, Ok, Err}
use Rattle.zarr_array_meaning.specs.StoreMaps.{counted}
use Rattle.zarr_array_storage.specs.declared.error.StorageError.{StorageError}
use Rattle.zarr_array_storage.specs.declared.error.StorageError.TheVariants.{Io, InvalidMetadata, InvalidKey, InvalidByteRange, Other, Memory}

-- whether an error counts as a refused call: each does but want of memory and a wrong byte range
abbrev pub is_counted : StorageError → Bool
is_counted Io = true
is_counted (InvalidMetadata key text) = true
is_counted InvalidKey = true
is_counted InvalidByteRange = false
is_counted (Other text) = true
is_counted Memory = false

-- the count of refused calls after a call with this result
abbrev pub refused_after : {A : Type 0} → ℕ → Result A StorageError → ℕ
refused_after count (Ok value) = count
refused_after count (Err error) = if is_counted error then counted count 1 else count

-- a fact of an error if it is a wrong byte range
abbrev pub IfByteRange : StorageError → Type 0 → Type 0
IfByteRange Io fact = Unit {0}
IfByteRange (InvalidMetadata key text) fact = Unit {0}
IfByteRange InvalidKey fact = Unit {0}
IfByteRange InvalidByteRange fact = fact
IfByteRange (Other text) fact = Unit {0}
IfByteRange Memory fact = Unit {0}

-- a fact where a byte range was refused
abbrev pub OnByteRange : {A : Type 0} → Result A StorageError → Type 0 → Type 0
OnByteRange (Ok value) fact = Unit {0}
OnByteRange (Err error) fact = IfByteRange error fact
