use Rattle.std.proofs.Common.{◌++◌, codes, sym, ap, ◌∙◌, option_copied, option_map}
use Rattle.serde_json.specs.Written.{compact_text}
use Rattle.zarr_codecs_types.specs.Views.{type_of}
use Rattle.zarr_run_commands.specs.Answers.{answer_json, compacted_json}
use Rattle.zarr_run_commands.specs.Commands.{answered}
use Rattle.zarr_run_commands.specs.Texts.{refusal_text}
use Rattle.zarr_run_commands.proofs.Appended.{appended, then_appended}
use Rattle.zarr_run_commands.proofs.Printed.{done_answer, refused_answer}
use Rattle.zarr_run_commands.proofs.answer.push_answer.Goals as goal

pub returns-in-Done-clause-ok : goal.returns-in-Done-clause-ok
returns-in-Done-clause-ok c =
    let type = option_map type_of (option_copied c.args.data_type) in
    let old = c.args.text.now.items in
    let text = ap (λ reply. compact_text (answer_json type (answered reply))) c.in-Done.is ∙ done_answer type in
    appended c.extend_from_slice.result c.extend_from_slice.new.self.items old (codes "{\"done\":true}") _ c.extend_from_slice.ensures.items (ap (λ more. old ++ more) (sym text))

pub returns-in-Compacted-clause-ok : goal.returns-in-Compacted-clause-ok
returns-in-Compacted-clause-ok c =
    let type = option_map type_of (option_copied c.args.data_type) in
    let old = c.args.text.now.items in
    let text = ap (λ reply. compact_text (answer_json type (answered reply))) c.in-Compacted.is in
    then_appended c.push_compacted.result c.push_compacted.new.text.items old (compact_text (compacted_json c.in-Compacted.changed)) _ c.push_compacted.ensures.ok (ap (λ more. old ++ more) (sym text))

pub returns-in-Refused-clause-ok : goal.returns-in-Refused-clause-ok
returns-in-Refused-clause-ok c =
    let type = option_map type_of (option_copied c.args.data_type) in
    let old = c.args.text.now.items in
    let text = ap (λ reply. compact_text (answer_json type (answered reply))) c.in-Refused.is ∙ refused_answer type c.in-Refused.cause c.in-Refused.applied in
    then_appended c.push_refusal.result c.push_refusal.new.text.items old (refusal_text c.in-Refused.cause c.in-Refused.applied) _ c.push_refusal.ensures.ok (ap (λ more. old ++ more) (sym text))
