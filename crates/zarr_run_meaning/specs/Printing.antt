-- Cells as answers print them.
use Rattle.std.specs.Prelude.{◌≡◌, ◌&&◌, ℕ, List, length, Bool, true, Some, is_some}
use Rattle.std.specs.List.{list_all}
use Rattle.std.specs.Str.{is_utf8}
use Rattle.zarr_codecs_meaning.specs.Payloads.{Payload, cells_in}
use Rattle.zarr_codecs_meaning.specs.Types.{DataType, string, optional_of, Cell, of_bytes, present, is_value}
use Rattle.zarr_codecs_types.specs.FillMetadata.{cell_data}
use Rattle.zarr_run_meaning.specs.Requests.{Target, in_box, in_chunk}
use Rattle.zarr_run_meaning.specs.Worlds.{Held, World, held_at}

-- whether the text in a cell is one: the bytes of a string are UTF-8
abbrev pub has_text : DataType → Cell → Bool
has_text string (of_bytes bytes) = is_utf8 bytes
has_text (optional_of inner) (present cell) = has_text inner cell
has_text type cell = true

-- whether a cell has a form as JSON
abbrev pub is_printed : DataType → Cell → Bool
is_printed type cell = is_some (cell_data type cell)

-- of all cells just the values of the type are printed, save those whose text is none
abbrev pub PrintsValues : DataType → Type 0
PrintsValues type = (cell : Cell) → is_printed type cell ≡ (is_value type cell && has_text type cell)

-- a box that a command names has a length for each start
abbrev pub IsFormed : Target → Type 0
IsFormed (in_box region) = length region.start ≡ length region.shape
IsFormed (in_chunk chunk) = Unit {0}

-- a payload is values of the type of the array at a path, and each of them is printed, save those whose text is none
pub record GivesValues (path : List ℕ) (payload : Payload) (world : World) : Type 0 where
  pub held : Held
  pub found : held_at path world.arrays ≡ Some held
  pub values : List Cell
  pub lists : cells_in held.document.elements.type payload ≡ Some values
  pub are : list_all (is_value held.document.elements.type) values ≡ true
  pub printed : list_all (is_printed held.document.elements.type) values ≡ list_all (has_text held.document.elements.type) values
