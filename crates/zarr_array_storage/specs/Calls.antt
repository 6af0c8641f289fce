-- Calls of a store, with what they were given and what they answered.
use Rattle.std.specs.Prelude.{◌≡◌, ℕ, List, Vec, Option, Result, Err}
use Rattle.std.specs.declared.alloc.Global.{Global}
use Rattle.zarr_codecs_traits.specs.Patches.{Patch}
use Rattle.zarr_codecs_traits.specs.declared.byte_range.ByteRange.{ByteRange}
use Rattle.zarr_array_storage.specs.declared.error.StorageError.{StorageError}

-- a call of a store, with what it was given and what it answered
pub data Call : Type 0 where
  get : (key : List ℕ) (answer : Result (Option (Vec ℕ Global)) StorageError) → Call
  get_partial : (key : List ℕ) (ranges : List ByteRange) (answer : Result (Option (Vec (Vec ℕ Global) Global)) StorageError) → Call
  size_key : (key : List ℕ) (answer : Result (Option ℕ) StorageError) → Call
  list : (answer : Result (Vec (List ℕ) Global) StorageError) → Call
  set : (key value : List ℕ) (answer : Result (Unit {0}) StorageError) → Call
  set_partial : (key : List ℕ) (patches : List Patch) (answer : Result (Unit {0}) StorageError) → Call
  erase : (key : List ℕ) (answer : Result (Unit {0}) StorageError) → Call

-- a call was refused with an error
abbrev pub IsRefusedWith : Call → StorageError → Type 0
IsRefusedWith (get key answer) e = answer ≡ Err e
IsRefusedWith (get_partial key ranges answer) e = answer ≡ Err e
IsRefusedWith (size_key key answer) e = answer ≡ Err e
IsRefusedWith (list answer) e = answer ≡ Err e
IsRefusedWith (set key value answer) e = answer ≡ Err e
IsRefusedWith (set_partial key patches answer) e = answer ≡ Err e
IsRefusedWith (erase key answer) e = answer ≡ Err e
