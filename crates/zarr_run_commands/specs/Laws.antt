-- Laws of the lines of answers.
use Rattle.std.specs.Prelude.{◌≡◌, List, true, Some, is_some}
use Rattle.std.specs.List.{list_all}
use Rattle.zarr_codecs_meaning.specs.Payloads.{Payload, cells_in}
use Rattle.zarr_codecs_meaning.specs.Types.{DataType, Cell, is_value}
use Rattle.zarr_run_meaning.specs.Printing.{has_text, PrintsValues}
use Rattle.zarr_run_commands.specs.Answers.{cells_json}

-- values that were read are listed in the answer, which is a fault only where the text of one of them is none
abbrev pub ValuesAnswered : Type 0
ValuesAnswered = (type : DataType) (payload : Payload) (values : List Cell) → PrintsValues type → cells_in type payload ≡ Some values → list_all (is_value type) values ≡ true
    → is_some (cells_json (Some type) payload) ≡ list_all (has_text type) values
