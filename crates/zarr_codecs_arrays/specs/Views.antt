-- What the values of `src/` stand for.
use Rattle.std.specs.Prelude.{ℕ, List}
use Rattle.zarr_codecs_meaning.specs.Payloads as payloads
use Rattle.zarr_codecs_meaning.specs.Types as types
use Rattle.zarr_codecs_types.specs.Views.{type_of, fill_of}
use Rattle.zarr_codecs_arrays.specs.declared.array_bytes.ArrayBytes.{ArrayBytes, Fixed, Variable, Optional'}
use Rattle.zarr_codecs_arrays.specs.declared.elements.Elements.{Elements}
use Rattle.zarr_codecs_arrays.specs.declared.offsets.ArrayBytesOffsets.{ArrayBytesOffsets}

-- the numbers of offsets
abbrev pub numbers_of : ArrayBytesOffsets → List ℕ
numbers_of offsets = offsets.offsets.items

-- the elements
abbrev pub payload_of : ArrayBytes → payloads.Payload
payload_of (Fixed bytes) = payloads.fixed bytes.items
payload_of (Variable bytes offsets) = payloads.variable bytes.items (numbers_of offsets)
payload_of (Optional' p inner mask) = payloads.optional (payload_of inner) mask.items

-- what elements of an array are
abbrev pub elements_of : Elements → types.Elements
elements_of elements = record { type = type_of elements.data_type; fill = fill_of elements.fill_value }
