-- Cells that are listed in an answer.
use Rattle.std.proofs.Common.{◌≡◌, ◌∙◌, List, [], ◌∷◌, Bool, ◌&&◌, Option, Some, None, is_some, option_map, option_and_then, refl, ap}
use Rattle.std.specs.List.{list_all}
use Rattle.serde_json.specs.Data.{Data, array, object, Items, item, member, no_members}
use Rattle.zarr_codecs_json.specs.Outcomes.{elements_data}
use Rattle.zarr_codecs_meaning.specs.Types.{DataType, Cell}
use Rattle.zarr_codecs_types.specs.FillMetadata.{cell_data}
use Rattle.zarr_run_meaning.specs.Printing.{is_printed}
use Rattle.zarr_run_meaning.proofs.Printing.{all_printed}
use Rattle.zarr_run_commands.specs.Laws.{ValuesAnswered}
use Rattle.std.specs.Prelude.{codes}

some_map : {X Y : Type 0} (f : X → Y) (o : Option X) → is_some (option_map f o) ≡ is_some o
some_map f None = refl
some_map f (Some x) = refl

both_some : (first : Option Data) (rest : Option Items) → is_some (option_and_then (λ d. option_map (λ ds. item d ds) rest) first) ≡ (is_some first && is_some rest)
both_some None rest = refl
both_some (Some d) rest = some_map (item d) rest

listed : (type : DataType) (cells : List Cell) → is_some (elements_data type cells) ≡ list_all (is_printed type) cells
listed type [] = refl
listed type (cell ∷ cells) = both_some (cell_data type cell) (elements_data type cells) ∙ ap (λ (b : Bool). is_some (cell_data type cell) && b) (listed type cells)

pub values_answered : ValuesAnswered
values_answered type payload values prints lists are =
    some_map (λ items. object (member (codes "cells") (array items) no_members)) _
    ∙ ap (λ o. is_some (option_and_then (elements_data type) o)) lists
    ∙ listed type values ∙ all_printed type values prints are
