-- Elements as commands give them: as calls take them, or as JSON (this project's profile).
use Rattle.std.specs.Prelude.{List, [], ◌∷◌, Option, Some, None, option_map, option_and_then}
use Rattle.serde_json.specs.Data.{Data, Items, no_items, item}
use Rattle.serde_json.specs.Find.{as_array}
use Rattle.zarr_codecs_meaning.specs.Types.{DataType, bool, integer, custom, string, variable_bytes, optional_of, Cell, of_bytes}
use Rattle.zarr_codecs_meaning.specs.Payloads.{Payload, values_only, values_in}
use Rattle.zarr_codecs_types.specs.FillMetadata.{byte_list, option_in, option_cell, cell_in}

-- the element that a JSON value says: as a fill value does, but bytes are never given in base64
abbrev pub element_in : DataType → Data → Option Cell
element_in bool d = cell_in bool d
element_in (integer sign width) d = cell_in (integer sign width) d
element_in (custom parts) d = None
element_in string d = cell_in string d
element_in variable_bytes d = option_map of_bytes (option_and_then byte_list (as_array d))
element_in (optional_of inner) d = option_and_then (option_cell (element_in inner)) (option_in d)

-- the elements that a JSON list says, where each of its values says one
abbrev pub elements_in : DataType → Items → Option (List Cell)
elements_in type no_items = Some []
elements_in type (item d ds) = option_and_then (λ cell. option_map (λ cells. cell ∷ cells) (elements_in type ds)) (element_in type d)

-- elements as a command gives them
pub data GivenCells : Type 0 where
  given_bytes : Payload → GivenCells
  given_json : Data → GivenCells

-- the elements of the type that a command gives, where each is a value
abbrev pub given_in : DataType → GivenCells → Option (List Cell)
given_in type (given_bytes payload) = values_in type payload
given_in type (given_json d) = option_and_then (values_only type) (option_and_then (elements_in type) (as_array d))
