use Rattle.std.proofs.Common.{◌≡◌, ◌∷◌, length, ap, ◌∙◌, arith}
use Rattle.json.specs.Json.{parse_map, members, value}
use Rattle.json.specs.Token.{Token}
use Rattle.json.proofs.Grammar.{value-begin_object}
use Rattle.serde_json.specs.Data.{object}
use Rattle.serde_json.specs.Read.{of_json, converted}
use Rattle.zarr_run_commands.specs.Lines.{options_in}
use Rattle.zarr_run_commands.proofs.Saying.{said}
use Rattle.zarr_run_commands.proofs.Turns.{converted-object}
use Rattle.zarr_run_commands.proofs.options.read_options.Goals as goal

pub returns-clause-read : goal.returns-clause-read
returns-clause-read c =
    let ts = c.begin_object.new.self in
    let found = c.in_ok-options.ensures.read in
    let first : c.args.reader.now ≡ Token.begin_object ∷ ts = grind arith in
    let opened = ap (converted of_json) (ap (value 126) first ∙ value-begin_object 126 ts (omega arith)) ∙ converted-object (members (value 125) (length ts) ts) in
    said (options_in c.args.workers) (value 126 c.args.reader.now) (object found.0) c.read_members.new.reader c.in_ok-options.options (opened ∙ ap (parse_map object) found.2) found.1
