-- Fill values as they are written: they say the same cells, have no floats, and are no deeper than the data type.
use Rattle.std.proofs.Common.{◌≡◌, ℕ, suc, ◌≤◌, max, ℤ, pos, negsuc, List, [], ◌∷◌, Bool, true, false, Option, Some, None, option_map, option_and_then, unwrap_or, if◌then◌else◌, refl, ap, ◌∙◌, arith}
use Rattle.std.specs.Str.{is_utf8}
use Rattle.serde_json.specs.Data.{Data, number, string, array, item, no_items, depth, items_depth}
use Rattle.serde_json.specs.Find.{of_integer}
use Rattle.serde_json.specs.Written.{has_float, items_have_float}
use Rattle.zarr_codecs_meaning.specs.Types.{DataType, bool, integer, custom, string as strings, variable_bytes, optional_of, Cell, of_bytes, absent, present, is_value, is_value_in_bytes}
use Rattle.zarr_codecs_types.specs.FillMetadata.{integer_from, byte_items, bytes_data, cell_data, cell_in}
use Rattle.zarr_codecs_types.proofs.FillBack.{fill_back}
use Rattle.zarr_array_meaning.specs.Parts.{fill_in}
use Rattle.zarr_array_meaning.specs.Written.{written_fill}

-- ---- what is said

data_back : (type : DataType) (d : Data) (o : Option Data) (c : Cell) → cell_in type d ≡ Some c → cell_data type c ≡ o → cell_in type (unwrap_or o d) ≡ Some c
data_back type d None c is e = is
data_back type d (Some f) c is e = fill_back c type f e

cell_back : (type : DataType) (d : Data) (o : Option Cell) → cell_in type d ≡ o → cell_in type (unwrap_or (option_and_then (cell_data type) o) d) ≡ o
cell_back type d None is = is
cell_back type d (Some c) is = data_back type d (cell_data type c) c is refl

cell_in-written : (type : DataType) (d : Data) → cell_in type (written_fill (Some type) d) ≡ cell_in type d
cell_in-written type d = cell_back type d (cell_in type d) refl

-- a fill value says the same value once it is written
pub fill_in-written : (type : DataType) (d : Data) → fill_in type (written_fill (Some type) d) ≡ fill_in type d
fill_in-written type d = ap (option_and_then (λ cell. if is_value type cell then Some cell else None)) (cell_in-written type d)

again_of : (o : Option Data) (d : Data) → unwrap_or o (unwrap_or o d) ≡ unwrap_or o d
again_of None d = refl
again_of (Some e) d = refl

-- a written fill value stays when it is written again
pub written_fill-twice : (type : Option DataType) (d : Data) → written_fill type (written_fill type d) ≡ written_fill type d
written_fill-twice None d = refl
written_fill-twice (Some type) d =
    ap (λ o. unwrap_or (option_and_then (cell_data type) o) (written_fill (Some type) d)) (cell_in-written type d)
    ∙ again_of (option_and_then (cell_data type) (cell_in type d)) d

-- ---- floats

-- whether data has a float; absent data has none
abbrev floats : Option Data → Bool
floats None = false
floats (Some d) = has_float d

items_float : (bytes : List ℕ) → items_have_float (byte_items bytes) ≡ false
items_float [] = refl
items_float (b ∷ bytes) = items_float bytes

integer_float : (z : ℤ) → has_float (number (of_integer z)) ≡ false
integer_float (pos n) = refl
integer_float (negsuc n) = refl

text_float : (b : Bool) (s : List ℕ) → floats (if b then Some (string s) else None) ≡ false
text_float true s = refl
text_float false s = refl

bytes_float : (type : DataType) (bytes : List ℕ) → floats (bytes_data type bytes) ≡ false
bytes_float bool bytes = refl
bytes_float (integer sign width) bytes = integer_float (integer_from sign width bytes)
bytes_float (custom parts) bytes = refl
bytes_float strings bytes = text_float (is_utf8 bytes) bytes
bytes_float variable_bytes bytes = items_float bytes
bytes_float (optional_of inner) bytes = refl

if_float : (b : Bool) (o : Option Data) → floats o ≡ false → floats (if b then o else None) ≡ false
if_float true o h = h
if_float false o h = refl

listed_float : (o : Option Data) → floats o ≡ false → floats (option_map (λ d. array (item d no_items)) o) ≡ false
listed_float None h = refl
listed_float (Some d) h = rw h

cell_float : (type : DataType) (cell : Cell) → floats (cell_data type cell) ≡ false
cell_float type (of_bytes bytes) = if_float (is_value_in_bytes type bytes) (bytes_data type bytes) (bytes_float type bytes)
cell_float bool absent = refl
cell_float (integer sign width) absent = refl
cell_float (custom parts) absent = refl
cell_float strings absent = refl
cell_float variable_bytes absent = refl
cell_float (optional_of inner) absent = refl
cell_float bool (present cell) = refl
cell_float (integer sign width) (present cell) = refl
cell_float (custom parts) (present cell) = refl
cell_float strings (present cell) = refl
cell_float variable_bytes (present cell) = refl
cell_float (optional_of inner) (present cell) = listed_float (cell_data inner cell) (cell_float inner cell)

float_of : (o : Option Data) (d : Data) → floats o ≡ false → has_float d ≡ false → has_float (unwrap_or o d) ≡ false
float_of None d h g = g
float_of (Some e) d h g = h

float_said : (type : DataType) (o : Option Cell) → floats (option_and_then (cell_data type) o) ≡ false
float_said type None = refl
float_said type (Some c) = cell_float type c

-- a fill value without a float has none once it is written
pub has_float-written_fill : (type : Option DataType) (d : Data) → has_float d ≡ false → has_float (written_fill type d) ≡ false
has_float-written_fill None d h = h
has_float-written_fill (Some type) d h = float_of (option_and_then (cell_data type) (cell_in type d)) d (float_said type (cell_in type d)) h

-- ---- depth

-- how deep the cells of a type nest as they are written
abbrev pub levels_of : DataType → ℕ
levels_of bool = 1
levels_of (integer sign width) = 1
levels_of (custom parts) = 1
levels_of strings = 1
levels_of variable_bytes = 1
levels_of (optional_of inner) = suc (levels_of inner)

abbrev pub levels_given : Option DataType → ℕ
levels_given None = 0
levels_given (Some type) = levels_of type

abbrev data_depth : Option Data → ℕ
data_depth None = 0
data_depth (Some d) = depth d

items_flat : (bytes : List ℕ) → items_depth (byte_items bytes) ≤ 0
items_flat [] = omega arith
items_flat (b ∷ bytes) = let h = items_flat bytes in omega arith

text_flat : (b : Bool) (s : List ℕ) → data_depth (if b then Some (string s) else None) ≤ 1
text_flat true s = omega arith
text_flat false s = omega arith

bytes_depth : (type : DataType) (bytes : List ℕ) → data_depth (bytes_data type bytes) ≤ levels_of type
bytes_depth bool bytes = omega arith
bytes_depth (integer sign width) bytes = omega arith
bytes_depth (custom parts) bytes = omega arith
bytes_depth strings bytes = text_flat (is_utf8 bytes) bytes
bytes_depth variable_bytes bytes = let h = items_flat bytes in omega arith
bytes_depth (optional_of inner) bytes = omega arith

if_depth : (b : Bool) (o : Option Data) (n : ℕ) → data_depth o ≤ n → data_depth (if b then o else None) ≤ n
if_depth true o n h = h
if_depth false o n h = omega arith

listed_depth : (o : Option Data) (n : ℕ) → data_depth o ≤ n → data_depth (option_map (λ d. array (item d no_items)) o) ≤ suc n
listed_depth None n h = omega arith
listed_depth (Some d) n h = omega arith

cell_depth : (type : DataType) (cell : Cell) → data_depth (cell_data type cell) ≤ levels_of type
cell_depth type (of_bytes bytes) = if_depth (is_value_in_bytes type bytes) (bytes_data type bytes) (levels_of type) (bytes_depth type bytes)
cell_depth bool absent = omega arith
cell_depth (integer sign width) absent = omega arith
cell_depth (custom parts) absent = omega arith
cell_depth strings absent = omega arith
cell_depth variable_bytes absent = omega arith
cell_depth (optional_of inner) absent = omega arith
cell_depth bool (present cell) = omega arith
cell_depth (integer sign width) (present cell) = omega arith
cell_depth (custom parts) (present cell) = omega arith
cell_depth strings (present cell) = omega arith
cell_depth variable_bytes (present cell) = omega arith
cell_depth (optional_of inner) (present cell) = listed_depth (cell_data inner cell) (levels_of inner) (cell_depth inner cell)

depth_of : (o : Option Data) (d : Data) (n : ℕ) → data_depth o ≤ n → depth (unwrap_or o d) ≤ max (depth d) n
depth_of None d n h = omega arith
depth_of (Some e) d n h = omega arith

depth_said : (type : DataType) (o : Option Cell) → data_depth (option_and_then (cell_data type) o) ≤ levels_of type
depth_said type None = omega arith
depth_said type (Some c) = cell_depth type c

-- a written fill value is no deeper than the given one, or than the cells of its type nest
pub depth-written_fill : (type : Option DataType) (d : Data) → depth (written_fill type d) ≤ max (depth d) (levels_given type)
depth-written_fill None d = omega arith
depth-written_fill (Some type) d = depth_of (option_and_then (cell_data type) (cell_in type d)) d (levels_of type) (depth_said type (cell_in type d))
