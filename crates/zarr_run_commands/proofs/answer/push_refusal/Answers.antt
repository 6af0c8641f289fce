use Rattle.std.proofs.Common.{◌++◌, codes, decimal, ap, ◌∙◌}
use Rattle.zarr_run_commands.specs.Texts.{cause_text}
use Rattle.zarr_run_commands.proofs.Appended.{then_appended, then_begins, joined}
use Rattle.zarr_run_commands.proofs.answer.push_refusal.Goals as goal

pub returns-clause-ok : goal.returns-clause-ok
returns-clause-ok c =
    let once = c.extend_from_slice.new.self.items in
    let twice = c.extend_from_slice-2.new.self.items in
    let counted = c.in_ok-extend_from_slice-2.ensures.items ∙ ap (λ digits. once ++ digits) (c.as_bytes.ensures.value ∙ c.format.ensures.text) in
    then_appended c.push_cause.result c.push_cause.new.text.items twice (cause_text c.args.cause) _ c.push_cause.ensures.ok
    (joined c.args.text.now.items (codes "{\"applied\":") (decimal c.args.applied) (cause_text c.args.cause) once twice c.in_ok-extend_from_slice.ensures.items counted)

pub returns-clause-err : goal.returns-clause-err
returns-clause-err c =
    then_begins c.push_cause.result c.args.text.now.items _ _ c.extend_from_slice.new.self.items c.extend_from_slice-2.new.self.items c.push_cause.new.text.items
    c.in_ok-extend_from_slice.ensures.items c.in_ok-extend_from_slice-2.ensures.items c.push_cause.ensures.err
