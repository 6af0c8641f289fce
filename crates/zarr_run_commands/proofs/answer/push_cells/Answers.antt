use Rattle.std.proofs.Common.{◌++◌, codes, sym, ap, ◌∙◌, option_copied, option_map, rules}
use Rattle.serde_json.specs.Data.{array}
use Rattle.serde_json.specs.Written.{compact_text}
use Rattle.zarr_codecs_types.specs.Views.{type_of}
use Rattle.zarr_codecs_arrays.specs.Views.{payload_of}
use Rattle.zarr_run_meaning.specs.Requests.{cells}
use Rattle.zarr_run_commands.specs.Answers.{answer_json, fault_json}
use Rattle.zarr_run_commands.proofs.Appended.{appended, then_appended, joined, cut_back, begins_kept}
use Rattle.zarr_run_commands.proofs.Printed.{cells_answer, no_text_answer, whole_printed, none_printed, none_appended}
use Rattle.zarr_run_commands.proofs.answer.push_cells.Goals as goal

pub returns-in-Whole-clause-ok : goal.returns-in-Whole-clause-ok
returns-in-Whole-clause-ok c =
    let old = c.args.text.now.items in
    let once = c.extend_from_slice.new.self.items in
    let twice = c.push_elements.new.text.items in
    let type = type_of c.in-Some.data_type.now in
    let payload = payload_of c.args.cells.now in
    let found = whole_printed type payload once twice c.in_ok-push_elements.field-0 c.in_ok-push_elements.ensures.ok c.in-Whole.is in
    let text =
    ap (λ given. compact_text (answer_json (option_map type_of (option_copied given)) (cells payload))) c.in-Some.is
    ∙ cells_answer type payload found.items found.are in
    appended c.extend_from_slice-in-Whole.result c.extend_from_slice-in-Whole.new.self.items twice (codes "}") _ c.extend_from_slice-in-Whole.ensures.items
    (joined old (codes "{\"cells\":") (compact_text (array found.items)) (codes "}") once twice c.in_ok-extend_from_slice.ensures.items found.text_is
    ∙ ap (λ more. old ++ more) (sym text))

pub returns-in-NoText : goal.returns-in-NoText
returns-in-NoText c =
    let old = c.args.text.now.items in
    let once = c.extend_from_slice.new.self.items in
    let twice = c.push_elements.new.text.items in
    let type = type_of c.in-Some.data_type.now in
    let payload = payload_of c.args.cells.now in
    let prints = c.in_ok-push_elements.ensures.ok in
    let none = none_printed type payload once twice c.in_ok-push_elements.field-0 prints c.in-NoText.is in
    let same = none_appended type payload once twice c.in_ok-push_elements.field-0 prints c.in-NoText.is in
    let back = c.truncate.ensures.items ∙ cut_back old (codes "{\"cells\":") once twice c.len-before.result (search rules) c.in_ok-extend_from_slice.ensures.items same in
    record {
      ok =
          let text =
          ap (λ given. compact_text (answer_json (option_map type_of (option_copied given)) (cells payload))) c.in-Some.is
          ∙ no_text_answer type payload none in
          then_appended c.push_fault-in-NoText.result c.push_fault-in-NoText.new.text.items c.truncate.new.self.items (compact_text (fault_json (codes "text"))) _
          c.push_fault-in-NoText.ensures.ok (ap (λ xs. xs ++ compact_text (fault_json (codes "text"))) back ∙ ap (λ more. old ++ more) (sym text));
      err = begins_kept c.push_fault-in-NoText.result old c.truncate.new.self.items c.push_fault-in-NoText.new.text.items back c.push_fault-in-NoText.ensures.err;
    }
