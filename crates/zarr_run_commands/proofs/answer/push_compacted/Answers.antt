use Rattle.std.proofs.Common.{◌++◌, codes, sym, ap, ◌∙◌}
use Rattle.serde_json.specs.Written.{compact_text}
use Rattle.zarr_run_commands.specs.Answers.{compacted_json}
use Rattle.zarr_run_commands.proofs.Appended.{appended}
use Rattle.zarr_run_commands.proofs.Printed.{changed_answer, unchanged_answer}
use Rattle.zarr_run_commands.proofs.answer.push_compacted.Goals as goal

pub returns-then-changed-clause-ok : goal.returns-then-changed-clause-ok
returns-then-changed-clause-ok c =
    let old = c.args.text.now.items in
    let text = ap (λ changed. compact_text (compacted_json changed)) c.if-changed.true ∙ changed_answer in
    appended c.extend_from_slice.result c.extend_from_slice.new.self.items old (codes "{\"compacted\":true}") _ c.extend_from_slice.ensures.items (ap (λ more. old ++ more) (sym text))

pub returns-else-changed-clause-ok : goal.returns-else-changed-clause-ok
returns-else-changed-clause-ok c =
    let old = c.args.text.now.items in
    let text = ap (λ changed. compact_text (compacted_json changed)) c.if-changed.false ∙ unchanged_answer in
    appended c.extend_from_slice-else-changed.result c.extend_from_slice-else-changed.new.self.items old (codes "{\"compacted\":false}") _ c.extend_from_slice-else-changed.ensures.items (ap (λ more. old ++ more) (sym text))
