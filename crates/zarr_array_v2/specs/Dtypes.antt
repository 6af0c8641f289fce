-- The dtypes of version 2, and the fill values beside them (Zarr storage specification version 2, "Data type encoding" and "Fill value encoding"; which dtypes are known is this project's profile).
use Rattle.std.specs.Prelude.{ℕ, List, [], ◌∷◌, codes, bytes_eq, Bool, true, false, ◌||◌, ◌==◌, if◌then◌else◌, Option, Some, None, is_some, option_map, option_and_then, unwrap_or}
use Rattle.serde_json.specs.Data.{Data, null, boolean, number, unsigned, string}
use Rattle.serde_json.specs.Find.{as_null, as_str, as_number, as_u64}

-- what a dtype says: a data type, and the byte order of its numbers where they have several bytes
pub record Dtype : Type 0 where
  pub data_type : List ℕ
  pub endian : Option (List ℕ)

-- elements of one byte, which have no byte order
abbrev pub one_byte : List ℕ → Dtype
one_byte data_type = record { data_type = data_type; endian = None }

-- numbers of several bytes, the lowest first
abbrev pub little : List ℕ → Dtype
little data_type = record { data_type = data_type; endian = Some (codes "little") }

-- numbers of several bytes, the highest first
abbrev pub big : List ℕ → Dtype
big data_type = record { data_type = data_type; endian = Some (codes "big") }

-- the text of a dtype, and what it says
abbrev pub Row : Type 0
Row = List ℕ × Dtype

-- the dtypes that are known: an order mark, a kind and a count of bytes
abbrev pub rows : List Row
rows =
    (codes "|b1", one_byte (codes "bool"))
    ∷ (codes "|i1", one_byte (codes "int8")) ∷ (codes "<i1", one_byte (codes "int8")) ∷ (codes ">i1", one_byte (codes "int8"))
    ∷ (codes "|u1", one_byte (codes "uint8")) ∷ (codes "<u1", one_byte (codes "uint8")) ∷ (codes ">u1", one_byte (codes "uint8"))
    ∷ (codes "<i2", little (codes "int16")) ∷ (codes "<i4", little (codes "int32")) ∷ (codes "<i8", little (codes "int64"))
    ∷ (codes ">i2", big (codes "int16")) ∷ (codes ">i4", big (codes "int32")) ∷ (codes ">i8", big (codes "int64"))
    ∷ (codes "<u2", little (codes "uint16")) ∷ (codes "<u4", little (codes "uint32")) ∷ (codes "<u8", little (codes "uint64"))
    ∷ (codes ">u2", big (codes "uint16")) ∷ (codes ">u4", big (codes "uint32")) ∷ (codes ">u8", big (codes "uint64")) ∷ []

-- what the dtype with this text says
abbrev pub dtype_named : List ℕ → List Row → Option Dtype
dtype_named text [] = None
dtype_named text (row ∷ others) = if bytes_eq text row.0 then Some row.1 else dtype_named text others

-- what the member `dtype` says, where it is a dtype that is known
abbrev pub dtype_in : Data → Option Dtype
dtype_in d = option_and_then (λ text. dtype_named text rows) (as_str d)

-- the member `data_type`: null, which is no data type, for a dtype that isn't known
abbrev pub data_type_of : Option Dtype → Data
data_type_of None = null
data_type_of (Some dtype) = string dtype.data_type

-- ---- fill values

-- whether a dtype says that the elements are booleans
abbrev pub is_bool : Option Dtype → Bool
is_bool dtype = unwrap_or (option_map (λ (t : Dtype). bytes_eq t.data_type (codes "bool")) dtype) false

-- whether a value is null
abbrev pub is_null : Data → Bool
is_null d = is_some (as_null d)

-- whether a value is this whole number
abbrev pub is_number : ℕ → Data → Bool
is_number n d = unwrap_or (option_map (λ m. m == n) (option_and_then as_u64 (as_number d))) false

-- the fill value of booleans: null and 0 are false, and 1 is true
abbrev pub boolean_fill : Data → Data
boolean_fill d = if is_null d || is_number 0 d then boolean false else (if is_number 1 d then boolean true else d)

-- the fill value of numbers: null is 0
abbrev pub number_fill : Data → Data
number_fill d = if is_null d then number (unsigned 0) else d

-- the member `fill_value` that says the same
abbrev pub fill_value_of : Option Dtype → Data → Data
fill_value_of dtype d = if is_bool dtype then boolean_fill d else number_fill d
