-- Elements as JSON lists.
use Rattle.std.specs.Prelude.{◌≡◌, ℕ, ◌%◌, Bool, true, false, List, [], ◌∷◌, ◌++◌, length, Option, Some, None, option_map, option_and_then}
use Rattle.std.specs.List.{list_all}
use Rattle.serde_json.specs.Data.{array, Items, no_items, item}
use Rattle.serde_json.specs.Written.{compact_text, items_text}
use Rattle.zarr_codecs_meaning.specs.Types.{DataType, Cell, is_value}
use Rattle.zarr_codecs_meaning.specs.Payloads.{Payload, fixed, fixed_cells, cells_in}
use Rattle.zarr_codecs_types.specs.FillMetadata.{byte_list, cell_data}
use Rattle.zarr_codecs_types.specs.Given.{elements_in}
use Rattle.zarr_codecs_json.specs.Inside.{cell_inside, said}
use Rattle.zarr_codecs_json.specs.Texts.{Begins}
use Rattle.zarr_codecs_json.specs.declared.printing.Printed.{Printed}
use Rattle.zarr_codecs_json.specs.declared.printing.Printed.TheVariants as printed

-- ---- read

-- a payload is the elements that a JSON list says
pub record AreGiven (type : DataType) (items : Items) (payload : Payload) : Type 0 where
  pub cells : List Cell
  pub said : elements_in type items ≡ Some cells
  pub lists : cells_in type payload ≡ Some cells

-- a payload is the elements that values say inside of so many optional types
pub record AreInside (type : DataType) (levels : ℕ) (items : Items) (payload : Payload) : Type 0 where
  pub cells : List Cell
  pub are : said (cell_inside type levels) items ≡ Some cells
  pub lists : cells_in type payload ≡ Some cells

-- whether bytes were appended: those that values are, or some where one of the values is no byte
abbrev pub AppendsBytes : Items → List ℕ → List ℕ → Bool → Type 0
AppendsBytes items old new true = (more : List ℕ) × (byte_list items ≡ Some more) × (new ≡ old ++ more)
AppendsBytes items old new false = byte_list items ≡ None

-- ---- written

-- elements as a JSON list; None where one is no value of the type, or has no text
abbrev pub elements_data : DataType → List Cell → Option Items
elements_data type [] = Some no_items
elements_data type (cell ∷ cells) = option_and_then (λ d. option_map (λ ds. item d ds) (elements_data type cells)) (cell_data type cell)

-- the elements that a payload is, as a JSON list
abbrev pub payload_data : DataType → Payload → Option Items
payload_data type payload = option_and_then (elements_data type) (cells_in type payload)

-- the text of a JSON list of the elements was appended
pub record IsPrinted (type : DataType) (payload : Payload) (before text : List ℕ) : Type 0 where
  pub items : Items
  pub are : payload_data type payload ≡ Some items
  pub text_is : text ≡ before ++ compact_text (array items)

-- what was printed of elements: all of them, or nothing where one has no text
abbrev pub Prints : DataType → Payload → List ℕ → List ℕ → Printed → Type 0
Prints type payload before text printed.Whole = IsPrinted type payload before text
Prints type payload before text printed.NoText = (payload_data type payload ≡ None) × (text ≡ before)

-- the text of a list after its beginning was appended, where each element has one; else a part of it may have been
abbrev pub AppendsItems : Option Items → List ℕ → List ℕ → Bool → Type 0
AppendsItems o before text true = (items : Items) × (o ≡ Some items) × (text ≡ before ++ items_text false items)
AppendsItems o before text false = (o ≡ None) × Begins before text

-- a payload is these bytes: whole elements of one width, each a value of the type
pub record AreValues (type : DataType) (width : ℕ) (payload : Payload) (bytes : List ℕ) : Type 0 where
  pub is : payload ≡ fixed bytes
  pub whole : length bytes % width ≡ 0
  pub values : list_all (is_value type) (fixed_cells width bytes) ≡ true
