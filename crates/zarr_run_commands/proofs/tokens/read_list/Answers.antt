use Rattle.std.proofs.Common.{length, ap, ◌∙◌, arith}
use Rattle.json.specs.Json.{parse_map, items, value}
use Rattle.json.proofs.Grammar.{value-begin_array}
use Rattle.serde_json.specs.Data.{array}
use Rattle.serde_json.specs.Read.{of_json, converted}
use Rattle.zarr_run_commands.proofs.Turns.{converted-array}
use Rattle.zarr_run_commands.proofs.tokens.read_list.Goals as goal

pub returns-in-Ok-clause-ok : goal.returns-in-Ok-clause-ok
returns-in-Ok-clause-ok c =
    let ts = c.begin_array.new.reader in
    let opened = ap (converted of_json) (ap (value 126) c.in_ok-begin_array.ensures ∙ value-begin_array 126 ts (omega arith)) ∙ converted-array (items (value 125) (length ts) ts) in
    opened ∙ ap (parse_map array) c.in-Ok.ensures.ok
