use Rattle.std.proofs.Common.{◌++◌, codes, ap, ◌∙◌}
use Rattle.zarr_run_commands.specs.Answers.{cause_name}
use Rattle.zarr_run_commands.proofs.Appended.{appended, joined}
use Rattle.zarr_run_commands.proofs.answer.push_cause.Goals as goal

pub returns-clause-ok : goal.returns-clause-ok
returns-clause-ok c =
    let once = c.extend_from_slice.new.self.items in
    let twice = c.extend_from_slice-2.new.self.items in
    let end = codes "\"}" in
    let named = c.in_ok-extend_from_slice-2.ensures.items ∙ ap (λ name. once ++ name) (c.as_bytes.ensures.value ∙ c.name_of.ensures) in
    appended c.extend_from_slice-3.result c.extend_from_slice-3.new.self.items twice end _ c.extend_from_slice-3.ensures.items
    (joined c.args.text.now.items (codes ",\"refused\":\"") (cause_name c.args.cause) end once twice c.in_ok-extend_from_slice.ensures.items named)
