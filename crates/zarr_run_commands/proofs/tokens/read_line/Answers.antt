use Rattle.std.proofs.Common.{◌≡◌, [], ◌∷◌, length, Some, sym, ap, ◌∙◌, arith}
use Rattle.json.specs.Json.{parse_map, members, value}
use Rattle.json.specs.Lex.{tokens}
use Rattle.json.specs.Token as token
use Rattle.json.proofs.Grammar.{value-begin_object}
use Rattle.serde_json.specs.Data.{object}
use Rattle.serde_json.specs.Read.{of_json, converted}
use Rattle.zarr_run_commands.proofs.Turns.{converted-object, whole_read}
use Rattle.zarr_run_commands.proofs.tokens.read_line.Goals as goal

pub returns : goal.returns
returns c =
    let text = c.args.text.now in
    let ts = c.begin_object.new.self in
    let found = c.in_ok-line.ensures in
    let first : c.new-reader.result ≡ token.begin_object ∷ ts = grind arith in
    let none : c.read_members.new.reader ≡ [] = grind arith in
    let opened = ap (converted of_json) (ap (value 127) (sym c.new-reader.ensures ∙ first) ∙ value-begin_object 127 ts (omega arith)) ∙ converted-object (members (value 126) (length ts) ts) in
    (found.0, found.1, whole_read (value 127 (tokens text)) (object found.0) (opened ∙ ap (parse_map object) found.2 ∙ ap (λ r. Some (object found.0, r)) none))
