-- Lines whose members were read one by one.
use Rattle.std.specs.Prelude.{◌≡◌, ℕ, List, Bool, true, ⊤, bytes_eq, codes, string_bytes, Option, Some, None, option_map, option_and_then, unwrap_or}
use Rattle.std.specs.List.{list_any}
use Rattle.json.specs.Token.{Token}
use Rattle.json.specs.Json.{value}
use Rattle.serde_json.specs.Data.{Data, array, Members}
use Rattle.serde_json.specs.Find.{get_member}
use Rattle.serde_json.specs.Read.{converted, of_json}
use Rattle.zarr_codecs_json.specs.Numbers.{number_items}
use Rattle.zarr_grids_boxes.specs.Subsets.{region_of}
use Rattle.zarr_grids_metadata.specs.Members.{has_only}
use Rattle.zarr_run_commands.specs.Lines.{operation_of, path_of, box_of, chunk_of, line_options_of, no_options}
use Rattle.zarr_run_commands.specs.declared.tokens.Line.{Line}

-- what the next value of a member says, and what is left after it
abbrev pub reads : {A : Type 0} → (Data → Option A) → List Token → Option (A × List Token)
reads says ts = converted (λ j. option_and_then says (of_json j)) (value 126 ts)

-- a list of whole numbers
abbrev pub number_list : List ℕ → Data
number_list ns = array (number_items ns)

-- a field that is some is one of these names
abbrev pub IsNamed : {A : Type 0} → List (List ℕ) → List ℕ → Option A → Type 0
IsNamed names name None = ⊤
IsNamed names name (Some a) = list_any (bytes_eq name) names ≡ true

-- the members have no other names than those of a line's fields
abbrev pub HasFields : Line → Members → Type 0
HasFields line ms =
    (names : List (List ℕ)) → IsNamed names (codes "op") line.operation → IsNamed names (codes "path") line.path → IsNamed names (codes "box") line.region
    → IsNamed names (codes "chunk") line.chunk → IsNamed names (codes "cells") line.cells → IsNamed names (codes "options") line.options → has_only names ms ≡ true

-- the fields of a line are what the members of an object say, with this value of `workers` where they don't say it
abbrev pub IsLine : Bool → Members → Line → Type 0
IsLine workers ms line =
    (operation_of ms ≡ line.operation) × (path_of ms ≡ option_map string_bytes line.path) × (box_of ms ≡ option_map region_of line.region)
    × (chunk_of ms ≡ option_map (λ v. v.items) line.chunk) × (get_member (codes "cells") ms ≡ option_map (λ v. number_list v.items) line.cells)
    × (line_options_of workers ms ≡ Some (unwrap_or line.options (no_options workers))) × HasFields line ms
