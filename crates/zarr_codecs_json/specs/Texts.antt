-- Texts of elements.
use Rattle.std.specs.Prelude.{◌≡◌, ℕ, List, [], ◌++◌, map, length, take, Option, Some, None, Bool, true, false, option_map, unwrap_or}
use Rattle.serde_json.specs.Data.{Data, null, Items}
use Rattle.serde_json.specs.View.{items_of}
use Rattle.serde_json.specs.Written.{compact_text}
use Rattle.zarr_codecs_meaning.specs.Types.{DataType, bool, integer, unsigned, signed, Cell, cell_bytes}
use Rattle.zarr_codecs_meaning.specs.Payloads.{Payload, fixed_cells, cells_in}
use Rattle.zarr_codecs_types.specs.Parts.{single_component}
use Rattle.zarr_codecs_types.specs.FillMetadata.{bytes_data}
use Rattle.zarr_codecs_json.specs.declared.numbers.Kind.{Kind}
use Rattle.zarr_codecs_json.specs.declared.numbers.Kind.TheVariants as kind

-- a text begins with what stood there before
abbrev pub Begins : List ℕ → List ℕ → Type 0
Begins before text = take (length before) text ≡ before

-- how many bytes the one number of an element takes
abbrev pub single_width : DataType → Option ℕ
single_width type = option_map (λ c. c.byte_count) (single_component type)

-- the type of numbers of a kind, of so many bits
abbrev pub kind_type : Kind → ℕ → DataType
kind_type kind.Bool width = bool
kind_type kind.Unsigned width = integer unsigned width
kind_type kind.Signed width = integer signed width

-- what is written for an element by its bytes
abbrev pub element_data : DataType → List ℕ → Data
element_data type bytes = unwrap_or (bytes_data type bytes) null

-- what is written for elements of one width by their bytes
abbrev pub fixed_data : DataType → ℕ → List ℕ → Items
fixed_data type width bytes = items_of (map (λ cell. element_data type (cell_bytes cell)) (fixed_cells width bytes))

-- the text of an element by its bytes
abbrev pub element_text : Kind → ℕ → List ℕ → List ℕ
element_text k width bytes = compact_text (element_data (kind_type k width) bytes)

-- all elements of a payload, where they are some of the type's
abbrev pub all_cells : DataType → Payload → List Cell
all_cells type payload = unwrap_or (cells_in type payload) []

-- the text of data was appended, where there is some; else a part of a text may have been
abbrev pub Appends : Option Data → List ℕ → List ℕ → Bool → Type 0
Appends o before text true = (d : Data) × (o ≡ Some d) × (text ≡ before ++ compact_text d)
Appends o before text false = (o ≡ None) × Begins before text
