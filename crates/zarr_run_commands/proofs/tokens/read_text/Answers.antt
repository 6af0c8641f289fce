use Rattle.std.proofs.Common.{◌≡◌, Some, string_bytes, sym, ap, rules}
use Rattle.json.specs.Json.{value}
use Rattle.serde_json.specs.Data.{string}
use Rattle.serde_json.specs.Find.{as_str}
use Rattle.zarr_run_commands.proofs.Saying.{said, string_token}
use Rattle.zarr_run_commands.proofs.tokens.read_text.Goals as goal

pub returns-clause-ok : goal.returns-clause-ok
returns-clause-ok c =
    let ts = c.args.reader.now in
    let r = c.next_text.new.reader in
    let text = c.in_ok-text.text.now in
    let copied : string_bytes c.in_ok-from_str.field-0 ≡ text = search rules in
    said as_str (value 126 ts) (string text) r (string_bytes c.in_ok-from_str.field-0) (string_token 126 ts r text c.in_ok-text.ensures) (ap Some (sym copied))
