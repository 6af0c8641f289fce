use Rattle.std.proofs.Common.{length, ap, ◌∙◌, arith}
use Rattle.json.specs.Json.{items, value}
use Rattle.json.proofs.Grammar.{value-begin_array}
use Rattle.zarr_run_commands.specs.Lines.{region_in}
use Rattle.zarr_run_commands.proofs.Saying.{saying, regions_listed}
use Rattle.zarr_run_commands.proofs.tokens.read_region.Goals as goal

pub returns-in-Ok-clause-ok : goal.returns-in-Ok-clause-ok
returns-in-Ok-clause-ok c =
    let ts = c.begin_array.new.reader in
    ap (saying region_in) (ap (value 126) c.in_ok-begin_array.ensures ∙ value-begin_array 126 ts (omega arith)) ∙ (regions_listed (items (value 125) (length ts) ts) ∙ c.in-Ok.ensures.ok)
