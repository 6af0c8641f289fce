-- Words that the contracts of data types use.
use Rattle.std.specs.Prelude.{ℕ, ◌+◌, ◌-◌, ◌/◌, ◌%◌, ◌^◌, ◌==◌, ◌&&◌, List, length, Bool, false, not, Option, Some, None, if◌then◌else◌, nat_lt}
use Rattle.zarr_codecs_meaning.specs.Numbers.{number}
use Rattle.zarr_codecs_meaning.specs.Types.{DataType, bool, integer, custom, string, variable_bytes, optional_of, Component, Sign, unsigned, signed, extended, bytes_in, are_components}

-- the one number of an element of a type of booleans or integers
abbrev pub single_component : DataType → Option Component
single_component bool = Some (record { width = 1; byte_count = 1; sign = unsigned })
single_component (integer sign width) = Some (record { width = width; byte_count = (width + 7) / 8; sign = sign })
single_component (custom parts) = None
single_component string = None
single_component variable_bytes = None
single_component (optional_of inner) = None

-- a number, where 64 bits are enough for it
abbrev pub word_sized : ℕ → Option ℕ
word_sized n = if nat_lt n (2 ^ 64) then Some n else None

-- whether bytes are as many as the components take, and each component is as its rule says
abbrev pub are_components_of : List Component → List ℕ → Bool
are_components_of parts bytes = (length bytes == bytes_in parts) && are_components parts bytes

-- whether the bits above so many of a number are as the sign rule says
abbrev pub is_extended : Sign → ℕ → List ℕ → Bool
is_extended sign width bytes = number 256 bytes == extended sign width (length bytes) (number 256 bytes % 2 ^ width)

-- whether a number of so many bits has a sign and is below zero
abbrev pub is_negative : Sign → ℕ → ℕ → Bool
is_negative unsigned width n = false
is_negative signed width n = not (nat_lt n (2 ^ (width - 1)))
