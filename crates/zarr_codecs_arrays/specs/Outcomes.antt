-- What calls that take elements answer.
use Rattle.std.specs.Prelude.{◌≡◌, ◌≢◌, ◌⊎◌, ℕ, List, length, Option, Some, None, is_some, Result, Ok, Err, true, false, if◌then◌else◌}
use Rattle.std.specs.List.{list_all}
use Rattle.zarr_codecs_meaning.specs.Payloads.{Payload, fixed, variable, optional, cells_in}
use Rattle.zarr_codecs_meaning.specs.Types.{DataType, is_fixed, is_variable, inner_type, Cell, is_value}
use Rattle.zarr_codecs_arrays.specs.declared.error.CodecError.{CodecError}
use Rattle.zarr_codecs_arrays.specs.declared.error.CodecError.TheVariants as error

-- a payload is so many elements of a type
pub record IsCounted (type : DataType) (payload : Payload) (count : ℕ) (cells : List Cell) : Type 0 where
  pub lists : cells_in type payload ≡ Some cells
  pub many : length cells ≡ count

-- the error that names the form of a type's elements: of one size, of variable length, or below a mask
abbrev pub form_expected : DataType → CodecError
form_expected type = if is_fixed type then error.ExpectedFixedLengthBytes else (if is_variable type then error.ExpectedVariableLengthBytes else error.ExpectedOptionalBytes)

-- which error a payload has that is none of a type's elements. Bytes, where the elements have one size, end within one of them: their number is wrong. Elements below a mask that are none of the inner type's have their own error. Any other payload has not the form of the type's elements
abbrev pub form_error : DataType → Payload → CodecError
form_error type (fixed bytes) = if is_fixed type then error.InvalidNumberOfElements else form_expected type
form_error type (variable bytes offsets) = form_expected type
form_error type (optional inner mask) = elim (inner_type type) [
  | None ↦ form_expected type
  | Some of_type ↦ (if is_some (cells_in of_type inner) then error.ExpectedOptionalBytes else form_error of_type inner)
]

-- a payload is none of a type's elements, and this is the error of its form
abbrev pub IsMisformed : DataType → Payload → CodecError → Type 0
IsMisformed type payload e = (cells_in type payload ≡ None) × (e ≡ form_error type payload)

-- a payload is elements of a type, but more or fewer of them
abbrev pub IsOtherCount : DataType → Payload → ℕ → Type 0
IsOtherCount type payload count = (cells : List Cell) × (cells_in type payload ≡ Some cells) × (length cells ≢ count)

-- why a payload is not so many elements of a type: the form is tested first, and then the number
abbrev pub IsMiscounted : DataType → Payload → ℕ → CodecError → Type 0
IsMiscounted type payload count error.ExpectedFixedLengthBytes = IsMisformed type payload error.ExpectedFixedLengthBytes
IsMiscounted type payload count error.ExpectedVariableLengthBytes = IsMisformed type payload error.ExpectedVariableLengthBytes
IsMiscounted type payload count error.ExpectedOptionalBytes = IsMisformed type payload error.ExpectedOptionalBytes
IsMiscounted type payload count error.InvalidNumberOfElements = IsMisformed type payload error.InvalidNumberOfElements ⊎ IsOtherCount type payload count
IsMiscounted type payload count e = ⊥

-- whether a payload is so many elements of a type
abbrev pub TestsCount : {A : Type 0} → DataType → Payload → ℕ → Result A CodecError → Type 0
TestsCount type payload count (Ok value) = (cells : List Cell) × IsCounted type payload count cells
TestsCount type payload count (Err e) = IsMiscounted type payload count e

-- why a payload is not so many values of a type: it is not so many elements, or one is no value
abbrev pub IsInvalid : DataType → Payload → ℕ → CodecError → Type 0
IsInvalid type payload count error.CellOutOfRange = (cells : List Cell) × IsCounted type payload count cells × (list_all (is_value type) cells ≡ false)
IsInvalid type payload count e = IsMiscounted type payload count e

-- a payload is so many values of a type
pub record IsValid (type : DataType) (payload : Payload) (count : ℕ) (cells : List Cell) : Type 0 where
  pub is : IsCounted type payload count cells
  pub values : list_all (is_value type) cells ≡ true

-- whether a payload is so many values of a type
abbrev pub Validates : {A : Type 0} → DataType → Payload → ℕ → Result A CodecError → Type 0
Validates type payload count (Ok value) = (cells : List Cell) × IsValid type payload count cells
Validates type payload count (Err error.Memory) = ⊥
Validates type payload count (Err e) = IsInvalid type payload count e
