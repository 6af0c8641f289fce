use Rattle.std.proofs.Common.{◌≡◌, Some, option_and_then, arith}
use Rattle.json.specs.Json.{value}
use Rattle.serde_json.specs.Data.{string}
use Rattle.serde_json.specs.Find.{as_str}
use Rattle.zarr_run_commands.specs.Lines.{operation_named}
use Rattle.zarr_run_commands.proofs.Saying.{said, string_token}
use Rattle.zarr_run_commands.proofs.tokens.read_operation.Goals as goal

pub returns-in-Some-clause-ok : goal.returns-in-Some-clause-ok
returns-in-Some-clause-ok c =
    let ts = c.args.reader.now in
    let r = c.next_text.new.reader in
    let name = c.in_ok-name.name.now in
    let named : operation_named name ≡ Some c.in-Some.operation = grind arith in
    said (λ d. option_and_then operation_named (as_str d)) (value 126 ts) (string name) r c.in-Some.operation (string_token 126 ts r name c.in_ok-name.ensures) named
