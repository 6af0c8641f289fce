-- What coders of parts answer.
use Rattle.std.specs.Prelude.{◌⊎◌, ℕ, List, Option, Err}
use Rattle.zarr_codecs_meaning.specs.Payloads.{Payload}
use Rattle.zarr_codecs_arrays.specs.declared.error.CodecError.{CodecError}
use Rattle.zarr_codecs_traits.specs.Arrays.{Coded}
use Rattle.zarr_codecs_traits.specs.Indexers.{Asked}
use Rattle.zarr_codecs_traits.specs.Outcomes.{DecodesPart, IsPart}

-- the elements at the places that are asked for, of what is stored, were put over those of a target
abbrev pub IsPartPut : Coded → Option (List ℕ) → Asked → (Payload → Type 0) → Type 0
IsPartPut array stored asked puts = (payload : Payload) × IsPart array stored asked payload × puts payload

-- why they are not: they are not decoded, or the target takes others
abbrev pub IsPartNotPut : Coded → Option (List ℕ) → Asked → (Payload → CodecError → Type 0) → CodecError → Type 0
IsPartNotPut array stored asked misfits e = DecodesPart array stored asked (Err e) ⊎ ((payload : Payload) × IsPart array stored asked payload × misfits payload e)
