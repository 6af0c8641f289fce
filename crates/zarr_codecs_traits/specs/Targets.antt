-- Bytes that decoded elements are put into.
use Rattle.std.specs.Prelude.{◌≡◌, ◌⊎◌, ◌≤◌, ◌^◌, ℕ, ◌*◌, List, length, replicate, Bool, true, false, ◌&&◌, ◌==◌, Result, Ok, Err}
use Rattle.zarr_grids_boxes.specs.Boxes.{Region, product}
use Rattle.zarr_grids_boxes.specs.Cuts.{IsAtMost, ends}
use Rattle.zarr_grids_boxes.specs.Subsets.{region_of}
use Rattle.zarr_grids_boxes.specs.declared.subset.ArraySubset.{ArraySubset}
use Rattle.zarr_grids_overlay.specs.Overlays.{IsOverlaid}
use Rattle.zarr_codecs_meaning.specs.Payloads.{Payload, fixed, variable, optional}
use Rattle.zarr_codecs_arrays.specs.declared.error.CodecError.{CodecError}
use Rattle.zarr_codecs_arrays.specs.declared.error.CodecError.TheVariants as error
use Rattle.zarr_codecs_traits.specs.Arrays.{Coded}
use Rattle.zarr_codecs_traits.specs.Outcomes.{Decodes, IsDecoded}
use Rattle.zarr_codecs_traits.specs.declared.target_bytes.TargetBytes.{TargetBytes}

-- ---- bytes of an array of which a box is replaced

-- the array of whose bytes some are replaced
abbrev pub array_of : TargetBytes → Region
array_of target = record { start = replicate (length target.shape.now) 0; shape = target.shape.now }

-- whether bytes are those of the elements of a target's box, and the target's bytes those of its array
abbrev pub takes : TargetBytes → List ℕ → Bool
takes target bytes = (length bytes == product target.region.now.shape.items * target.width) && (length target.bytes.now == product target.shape.now * target.width)

-- a target's box ends inside of its array
abbrev pub EndsInside : TargetBytes → Type 0
EndsInside target = IsAtMost (ends (region_of target.region.now)) target.shape.now

-- bytes of a box were put over those of a target: it is the same place in memory, with their elements at the places of the box and its own at all others
pub record IsPut (before : TargetBytes) (given : List ℕ) (after : TargetBytes) : Type 0 where
  pub same_reference : after.bytes.ghost_name ≡ before.bytes.ghost_name
  pub shape : after.shape.now ≡ before.shape.now
  pub region : region_of after.region.now ≡ region_of before.region.now
  pub width : after.width ≡ before.width
  pub bytes : IsOverlaid before.width (array_of before) (region_of before.region.now) before.bytes.now given after.bytes.now

-- why bytes are not put over those of a target
abbrev pub IsBytesMisfit : TargetBytes → List ℕ → CodecError → Type 0
IsBytesMisfit target bytes error.InvalidNumberOfElements = takes target bytes ≡ false
IsBytesMisfit target bytes error.IncompatibleIndexer = ¬ EndsInside target
IsBytesMisfit target bytes error.Memory = Unit {0}
IsBytesMisfit target bytes e = ⊥

-- bytes can be put over those of a target, whose array is this box
pub record CanPut (target : TargetBytes) (bytes : List ℕ) (whole : Region) : Type 0 where
  pub takes_them : takes target bytes ≡ true
  pub rank : length target.region.now.start.items ≡ length target.shape.now
  pub is_array : whole ≡ array_of target

-- the box of all places of a target's array, where bytes can be put over those of its box, or why they can't
abbrev pub IsReady : TargetBytes → List ℕ → Result ArraySubset CodecError → Type 0
IsReady target bytes (Ok whole) = CanPut target bytes (region_of whole)
IsReady target bytes (Err e) = IsBytesMisfit target bytes e

-- ---- forms of elements

-- a fact of elements of one size
abbrev pub OnFixed : Payload → (List ℕ → Type 0) → Type 0
OnFixed (fixed bytes) fact = fact bytes
OnFixed (variable bytes offsets) fact = ⊥
OnFixed (optional values present) fact = ⊥

-- a fact of optional elements
abbrev pub OnOptional : Payload → (Payload → List ℕ → Type 0) → Type 0
OnOptional (fixed bytes) fact = ⊥
OnOptional (variable bytes offsets) fact = ⊥
OnOptional (optional values present) fact = fact values present

-- elements are refused since they have not one size
abbrev pub IsNotFixed : Payload → CodecError → Type 0
IsNotFixed (fixed bytes) e = ⊥
IsNotFixed (variable bytes offsets) e = e ≡ error.ExpectedFixedLengthBytes
IsNotFixed (optional values present) e = e ≡ error.ExpectedFixedLengthBytes

-- elements are refused since they are not optional
abbrev pub IsNotOptional : Payload → CodecError → Type 0
IsNotOptional (fixed bytes) e = e ≡ error.ExpectedOptionalBytes
IsNotOptional (variable bytes offsets) e = e ≡ error.ExpectedOptionalBytes
IsNotOptional (optional values present) e = ⊥

-- ---- values that are decoded into a target

-- the elements of an array that a value is decoded to were put over those of a target of so many
pub record IsDecodedInto (array : Coded) (value : List ℕ) (count : ℕ) (puts : Payload → Type 0) : Type 0 where
  pub payload : Payload
  pub is : IsDecoded array value payload
  pub many : count ≡ product array.shape
  pub put : puts payload

-- an array is refused since a target has more or fewer elements
abbrev pub HasOtherCount : ℕ → List ℕ → CodecError → Type 0
HasOtherCount count shape error.InvalidNumberOfElements = ¬ (count ≡ product shape)
HasOtherCount count shape e = ⊥

-- why the elements of an array are not put over those of a target: they are too many to be counted, the target has more or fewer, or it refuses them
abbrev pub IsNotPut : List ℕ → ℕ → (CodecError → Type 0) → CodecError → Type 0
IsNotPut shape count misfits e = ((e ≡ error.Size) × (2 ^ 63 ≤ product shape)) ⊎ (HasOtherCount count shape e ⊎ misfits e)

-- why a value is not decoded into a target: it isn't decoded, or the target takes other elements than those that it is decoded to
abbrev pub NotDecodedInto : Coded → List ℕ → ℕ → (Payload → CodecError → Type 0) → CodecError → Type 0
NotDecodedInto array value count misfits e =
    Decodes array value (Err e) ⊎ (HasOtherCount count array.shape e ⊎ ((payload : Payload) × IsDecoded array value payload × misfits payload e))
