-- Where array to array codecs move places to, and what moving elements answers.
use Rattle.std.specs.Prelude.{◌≡◌, ℕ, List, map, slice_index, Bool, true, nat_lt, Some, Result, Ok, Err}
use Rattle.std.specs.List.{list_all}
use Rattle.zarr_grids_boxes.specs.Boxes.{product, place_at, ravel}
use Rattle.zarr_codecs_meaning.specs.Chains.{ArrayCodec}
use Rattle.zarr_codecs_meaning.specs.Payloads.{Payload, cells_in}
use Rattle.zarr_codecs_meaning.specs.Places.{gather, position_of, source_places}
use Rattle.zarr_codecs_meaning.specs.Types.{Cell, Elements, DataType, IsTooLarge}
use Rattle.zarr_codecs_arrays.specs.Outcomes.{IsInvalid, IsValid}
use Rattle.zarr_codecs_arrays.specs.Views.{payload_of}
use Rattle.zarr_codecs_arrays.specs.declared.array_bytes.ArrayBytes.{ArrayBytes}
use Rattle.zarr_codecs_arrays.specs.declared.error.CodecError.{CodecError}
use Rattle.zarr_codecs_arrays.specs.declared.error.CodecError.TheVariants as error

-- the numbers, after an array codec, of the places with these numbers before it
abbrev pub moved_numbers : ArrayCodec → List ℕ → List ℕ → List ℕ
moved_numbers codec shape numbers = map (λ n. position_of n (source_places codec shape)) numbers

-- whether each number is below a count
abbrev pub are_below : ℕ → List ℕ → Bool
are_below count numbers = list_all (λ n. nat_lt n count) numbers

-- whether each number is that of a place of a shape
abbrev pub are_places : List ℕ → List ℕ → Bool
are_places shape numbers = are_below (product shape) numbers

-- the number, in another shape, of the place whose coordinates are those of the place with this number that stand at some dimensions
abbrev pub picked_number : List ℕ → List ℕ → List ℕ → ℕ → ℕ
picked_number from picks to n = ravel (map (slice_index (place_at (map (λ size. 0) from) from n)) picks) to

-- whether elements are so many values of a type, or why they are not
abbrev pub Checks : {A : Type 0} → DataType → ℕ → Payload → Result A CodecError → Type 0
Checks type count payload (Ok value) = (cells : List Cell) × IsValid type payload count cells
Checks type count payload (Err error.Size) = IsTooLarge type count
Checks type count payload (Err error.Memory) = ⊥
Checks type count payload (Err e) = IsInvalid type payload count e

-- elements, of so many values, that others are gathered from
pub record IsGathered (elements : Elements) (count : ℕ) (numbers : List ℕ) (payload made : Payload) : Type 0 where
  pub cells : List Cell
  pub valid : IsValid elements.type payload count cells
  pub lists : cells_in elements.type made ≡ Some (gather elements.fill cells numbers)

-- the elements with these numbers of so many, or why there are none
abbrev pub Gathers : Elements → ℕ → List ℕ → Payload → Result ArrayBytes CodecError → Type 0
Gathers elements count numbers payload (Ok made) = are_below count numbers ≡ true → IsGathered elements count numbers payload (payload_of made)
Gathers elements count numbers payload (Err error.Size) = IsTooLarge elements.type count
Gathers elements count numbers payload (Err error.Memory) = Unit {0}
Gathers elements count numbers payload (Err e) = IsInvalid elements.type payload count e
