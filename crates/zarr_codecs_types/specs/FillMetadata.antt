-- What a fill value in metadata says, and what is written for one (Zarr core specification, "Fill value"; bytes and optional types are this project's profile).
use Rattle.std.specs.Prelude.{ℕ, suc, ◌+◌, ◌-◌, ◌/◌, ◌^◌, ℤ, pos, negsuc, List, [], ◌∷◌, length, Bool, true, false, not, bytes_eq, nat_lt, if◌then◌else◌, Option, Some, None, option_map, option_and_then}
use Rattle.std.specs.Result.{result_ok}
use Rattle.std.specs.Str.{is_utf8}
use Rattle.serde_json.specs.Data.{unsigned as natural, Data, null, boolean, number as numeral, string as text, array, object, Items, no_items, item}
use Rattle.serde_json.specs.Find.{as_bool, as_number, as_integer, as_u64, as_str, of_integer}
use Rattle.base64.specs.Engines.{standard}
use Rattle.base64.specs.GeneralPurpose.{decode_of}
use Rattle.zarr_codecs_meaning.specs.Numbers.{number}
use Rattle.zarr_codecs_meaning.specs.Types.{Sign, unsigned, signed, DataType, bool, integer, custom, string, variable_bytes, optional_of, Cell, of_bytes, absent, present, inner_type, are_bytes, is_value_in_bytes}
use Rattle.zarr_codecs_types.specs.Integers.{integer_bytes}

-- ---- read

-- whether an integer is in the range of so many bits
abbrev pub integer_fits : Sign → ℕ → ℤ → Bool
integer_fits unsigned width (pos n) = nat_lt n (2 ^ width)
integer_fits unsigned width (negsuc n) = false
integer_fits signed width (pos n) = nat_lt n (2 ^ (width - 1))
integer_fits signed width (negsuc n) = nat_lt n (2 ^ (width - 1))

-- the integer in range that a tree is; a float is none
abbrev pub integer_in : Sign → ℕ → Data → Option ℤ
integer_in sign width d = option_and_then (λ z. if integer_fits sign width z then Some z else None) (option_and_then as_integer (as_number d))

-- the byte of a boolean
abbrev pub bool_bytes : Bool → List ℕ
bool_bytes flag = (if flag then 1 else 0) ∷ []

-- the byte that a tree is: a number below 256
abbrev pub byte_in : Data → Option ℕ
byte_in d = option_and_then (λ n. if nat_lt n 256 then Some n else None) (option_and_then as_u64 (as_number d))

-- the bytes that a list is
abbrev pub byte_list : Items → Option (List ℕ)
byte_list no_items = Some []
byte_list (item d ds) = option_and_then (λ b. option_map (λ bs. b ∷ bs) (byte_list ds)) (byte_in d)

-- the bytes that a tree is: a list of bytes, or a text in base64
abbrev pub bytes_in : Data → Option (List ℕ)
bytes_in null = None
bytes_in (boolean b) = None
bytes_in (numeral n) = None
bytes_in (text s) = result_ok (decode_of standard s)
bytes_in (array ds) = byte_list ds
bytes_in (object ms) = None

-- the value of a list of one value
abbrev pub only_item : Items → Option Data
only_item no_items = None
only_item (item d no_items) = Some d
only_item (item d (item e ds)) = None

-- an optional element: null where it is absent, a list of one value where it is present
abbrev pub option_in : Data → Option (Option Data)
option_in null = Some None
option_in (boolean b) = None
option_in (numeral n) = None
option_in (text s) = None
option_in (array ds) = option_map Some (only_item ds)
option_in (object ms) = None

-- an optional cell, by what reads the cells that are present
abbrev pub option_cell : (Data → Option Cell) → Option Data → Option Cell
option_cell read None = Some absent
option_cell read (Some d) = option_map present (read d)

-- the cell that a tree says, of a data type; a caller's type has none
abbrev pub cell_in : DataType → Data → Option Cell
cell_in bool d = option_map (λ flag. of_bytes (bool_bytes flag)) (as_bool d)
cell_in (integer sign width) d = option_map (λ z. of_bytes (integer_bytes ((width + 7) / 8) z)) (integer_in sign width d)
cell_in (custom parts) d = None
cell_in string d = option_map of_bytes (as_str d)
cell_in variable_bytes d = option_map of_bytes (bytes_in d)
cell_in (optional_of inner) d = option_and_then (option_cell (cell_in inner)) (option_in d)

-- ---- written

-- the integer that bytes are, where a number of so many bits is in them
abbrev pub integer_from : Sign → ℕ → List ℕ → ℤ
integer_from unsigned width bytes = pos (number 256 bytes)
integer_from signed width bytes = if nat_lt (number 256 bytes) (2 ^ (width - 1)) then pos (number 256 bytes) else negsuc (256 ^ length bytes - suc (number 256 bytes))

-- each byte as a number
abbrev pub byte_items : List ℕ → Items
byte_items [] = no_items
byte_items (b ∷ bs) = item (numeral (natural b)) (byte_items bs)

-- what is written for bytes that are a value of a data type; None for a caller's type, and for a string that is not UTF-8
abbrev pub bytes_data : DataType → List ℕ → Option Data
bytes_data bool bytes = Some (boolean (not (bytes_eq bytes (0 ∷ []))))
bytes_data (integer sign width) bytes = Some (numeral (of_integer (integer_from sign width bytes)))
bytes_data (custom parts) bytes = None
bytes_data string bytes = if is_utf8 bytes then Some (text bytes) else None
bytes_data variable_bytes bytes = Some (array (byte_items bytes))
bytes_data (optional_of inner) bytes = None

-- what is written for a cell; None also where it is no value of the type
abbrev pub cell_data : DataType → Cell → Option Data
cell_data type (of_bytes bytes) = if is_value_in_bytes type bytes then bytes_data type bytes else None
cell_data type absent = option_map (λ inner. null) (inner_type type)
cell_data type (present cell) = option_and_then (λ inner. option_map (λ d. array (item d no_items)) (cell_data inner cell)) (inner_type type)

-- whether each byte of a cell is below 256
abbrev pub holds_bytes : Cell → Bool
holds_bytes (of_bytes bytes) = are_bytes bytes
holds_bytes absent = true
holds_bytes (present cell) = holds_bytes cell
