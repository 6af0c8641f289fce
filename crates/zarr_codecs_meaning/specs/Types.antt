-- Data types and their cells.
use Rattle.std.specs.Prelude.{◌⊎◌, ℕ, ◌+◌, ◌-◌, ◌*◌, ◌/◌, ◌%◌, ◌^◌, ◌≤◌, MatchOption, List, [], ◌∷◌, length, take, drop, replicate, Option, Some, None, Bool, true, false, ◌&&◌, if◌then◌else◌, ◌==◌, nat_lt, bytes_eq}
use Rattle.std.specs.List.{list_all}
use Rattle.zarr_codecs_meaning.specs.Numbers.{number}

-- whether the bits above a number's own are zeros or copies of its highest bit (two's complement)
pub data Sign : Type 0 where
  unsigned : Sign
  signed : Sign

-- one number of an element: how many bits are its own, and how many bytes it takes in memory, little endian
pub record Component : Type 0 where
  pub width : ℕ
  pub byte_count : ℕ
  pub sign : Sign

-- what the elements of an array are (Zarr core specification; the names int2, int4, uint2, uint4, optional and the caller's types: this project's profile)
pub data DataType : Type 0 where
  bool : DataType
  -- an integer with its width in bits: 2, 4, 8, 16, 32 or 64
  integer : Sign → ℕ → DataType
  -- a caller's type with elements of one size
  custom : List Component → DataType
  string : DataType
  variable_bytes : DataType
  optional_of : DataType → DataType

-- unsigned integers of eight bits
abbrev pub uint8 : DataType
uint8 = integer unsigned 8

-- unsigned integers of 64 bits
abbrev pub uint64 : DataType
uint64 = integer unsigned 64

-- whether all elements take the same number of bytes
abbrev pub is_fixed : DataType → Bool
is_fixed bool = true
is_fixed (integer sign width) = true
is_fixed (custom parts) = true
is_fixed string = false
is_fixed variable_bytes = false
is_fixed (optional_of inner) = false

-- whether the elements may have any number of bytes
abbrev pub is_variable : DataType → Bool
is_variable bool = false
is_variable (integer sign width) = false
is_variable (custom parts) = false
is_variable string = true
is_variable variable_bytes = true
is_variable (optional_of inner) = false

-- the type of the elements that are present, of an optional type
abbrev pub inner_type : DataType → Option DataType
inner_type bool = None
inner_type (integer sign width) = None
inner_type (custom parts) = None
inner_type string = None
inner_type variable_bytes = None
inner_type (optional_of inner) = Some inner

-- the numbers that an element of a fixed type consists of
abbrev pub components : DataType → List Component
components bool = record { width = 1; byte_count = 1; sign = unsigned } ∷ []
components (integer sign width) = record { width = width; byte_count = (width + 7) / 8; sign = sign } ∷ []
components (custom parts) = parts
components string = []
components variable_bytes = []
components (optional_of inner) = []

-- how many bytes components take together
abbrev pub bytes_in : List Component → ℕ
bytes_in [] = 0
bytes_in (c ∷ cs) = c.byte_count + bytes_in cs

-- how many bytes each element takes, of a fixed type
abbrev pub byte_width : DataType → Option ℕ
byte_width type = if is_fixed type then Some (bytes_in (components type)) else None

-- this many elements of a type are 2^63 or more, or have 2^63 bytes or more
abbrev pub IsTooLarge : DataType → ℕ → Type 0
IsTooLarge type count = (2 ^ 63 ≤ count) ⊎ MatchOption (byte_width type) ⊥ (λ width. 2 ^ 63 ≤ count * width)

-- an element: its bytes in memory, or for an optional type absent, or present with an element of the inner type
pub data Cell : Type 0 where
  of_bytes : List ℕ → Cell
  absent : Cell
  present : Cell → Cell

-- the bytes of a cell that is given by its bytes, and none of another
abbrev pub cell_bytes : Cell → List ℕ
cell_bytes (of_bytes bytes) = bytes
cell_bytes absent = []
cell_bytes (present cell) = []

-- a number of so many bits as it stands in so many bytes: above its bits zeros, or copies of the highest of them
abbrev pub extended : Sign → ℕ → ℕ → ℕ → ℕ
extended unsigned bits byte_count n = n
extended signed bits byte_count n = if nat_lt n (2 ^ (bits - 1)) then n else n + (256 ^ byte_count - 2 ^ bits)

-- the bits above a component's own are as its sign rule says
abbrev pub is_component : Component → List ℕ → Bool
is_component c bytes = number 256 bytes == extended c.sign c.width c.byte_count (number 256 bytes % 2 ^ c.width)

-- the components that bytes write one after another are as their rules say
abbrev pub are_components : List Component → List ℕ → Bool
are_components [] bytes = true
are_components (c ∷ cs) bytes = is_component c (take c.byte_count bytes) && are_components cs (drop c.byte_count bytes)

-- each number is a byte
abbrev pub are_bytes : List ℕ → Bool
are_bytes bytes = list_all (λ b. nat_lt b 256) bytes

-- of a fixed type the right number of bytes and each component as it should be; of a type of variable length any bytes (UTF-8 is not asked for)
abbrev pub is_value_in_bytes : DataType → List ℕ → Bool
is_value_in_bytes type bytes =
    are_bytes bytes && (if is_fixed type then (length bytes == bytes_in (components type)) && are_components (components type) bytes else is_variable type)

-- whether a cell is a value of the type
abbrev pub is_value : DataType → Cell → Bool
is_value type (of_bytes bytes) = is_value_in_bytes type bytes
is_value type absent = elim (inner_type type) [ None ↦ false | Some inner ↦ true ]
is_value type (present cell) = elim (inner_type type) [ None ↦ false | Some inner ↦ is_value inner cell ]

-- whether two cells are equal
abbrev pub same_cell : Cell → Cell → Bool
same_cell (of_bytes bytes) (of_bytes others) = bytes_eq bytes others
same_cell (of_bytes bytes) absent = false
same_cell (of_bytes bytes) (present other) = false
same_cell absent (of_bytes others) = false
same_cell absent absent = true
same_cell absent (present other) = false
same_cell (present cell) (of_bytes others) = false
same_cell (present cell) absent = false
same_cell (present cell) (present other) = same_cell cell other

-- whether all cells are the fill value
abbrev pub is_fill : Cell → List Cell → Bool
is_fill fill cells = list_all (λ cell. same_cell cell fill) cells

-- the cell of zero bytes, of no bytes, or absent
abbrev pub zero_cell : DataType → Cell
zero_cell bool = of_bytes (0 ∷ [])
zero_cell (integer sign width) = of_bytes (replicate ((width + 7) / 8) 0)
zero_cell (custom parts) = of_bytes (replicate (bytes_in parts) 0)
zero_cell string = of_bytes []
zero_cell variable_bytes = of_bytes []
zero_cell (optional_of inner) = absent

-- what the elements of an array are: their type, and the value of those that nobody wrote
pub record Elements : Type 0 where
  pub type : DataType
  pub fill : Cell

-- elements of a type that fills with zero
abbrev pub zero_filled : DataType → Elements
zero_filled type = record { type = type; fill = zero_cell type }
