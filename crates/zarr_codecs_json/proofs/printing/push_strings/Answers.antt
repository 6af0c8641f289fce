use Rattle.std.proofs.Common.{◌∙◌, sym, subst, arith, true, get_or}
use Rattle.serde_json.specs.Written.{comma_if}
use Rattle.std.specs.Prelude.{nat_lt}
use Rattle.zarr_codecs_meaning.specs.Types.{absent, string}
use Rattle.zarr_codecs_meaning.specs.Payloads.{variable}
use Rattle.zarr_codecs_types.specs.FillMetadata.{cell_data}
use Rattle.zarr_codecs_arrays.specs.Views.{numbers_of}
use Rattle.zarr_codecs_json.specs.Outcomes.{AppendsItems}
use Rattle.zarr_codecs_json.specs.Texts.{Appends, all_cells}
use Rattle.zarr_codecs_json.proofs.PrintedCells.{counted_cells, one_listed, not_listed, all_listed, payload_of_cells}
use Rattle.zarr_codecs_json.proofs.PrintedTexts.{begins_more, begins_trans, after_error}
use Rattle.zarr_codecs_json.proofs.printing.push_strings.Goals as goal

pub returns-in_err-push_variable-clause-err : goal.returns-in_err-push_variable-clause-err
returns-in_err-push_variable-clause-err c =
    let old = c.args.text.now.items in
    after_error _ _
    (begins_trans old c.push_comma.new.text.items c.push_variable.new.text.items
    (begins_more old c.loop-index.text.items (comma_if (nat_lt 0 c.loop-index.index)) c.push_comma.new.text.items c.loop-index.invariant.begins c.in_ok-push_comma.ensures.ok) c.in_err-push_variable.ensures.err)

pub returns-then-not-branch-clause-ok : goal.returns-then-not-branch-clause-ok
returns-then-not-branch-clause-ok c =
    let type = string in
    let payload = variable c.args.bytes.now (numbers_of c.args.offsets.now) in
    let cells = all_cells type payload in
    let index = c.loop-index.index in
    let counted = counted_cells type payload c.args.count c.requires in
    let new = c.push_variable.new.text.items in
    let h =
    not_listed type c.args.text.now.items c.loop-index.text.items c.push_comma.new.text.items new index cells (omega (arith, counted.1, c.loop-index-test.true)) c.in_ok-push_comma.ensures.ok
    (subst (Appends (cell_data type (get_or cells index absent)) c.push_comma.new.text.items new) c.if-not-branch.true c.in_ok-push_variable.ensures.ok) c.loop-index.invariant in
    (sym (payload_of_cells type payload counted.0) ∙ h.0, h.1)

pub returns-clause-ok : goal.returns-clause-ok
returns-clause-ok c =
    let type = string in
    let payload = variable c.args.bytes.now (numbers_of c.args.offsets.now) in
    let cells = all_cells type payload in
    let counted = counted_cells type payload c.args.count c.requires in
    subst (λ o. AppendsItems o c.args.text.now.items c.push.new.self.items true) (payload_of_cells type payload counted.0)
    (all_listed type c.args.text.now.items c.loop-index.text.items c.push.new.self.items c.loop-index.index cells (omega (arith, counted.1, c.loop-index-test.false)) c.in_ok-push.ensures.items c.loop-index.invariant)

pub loop-index-preserved : goal.loop-index-preserved
loop-index-preserved c =
    let cells = all_cells string (variable c.args.bytes.now (numbers_of c.args.offsets.now)) in
    let index = c.loop-index.index in
    let counted = counted_cells string (variable c.args.bytes.now (numbers_of c.args.offsets.now)) c.args.count c.requires in
    let new = c.push_variable.new.text.items in
    one_listed string c.args.text.now.items c.loop-index.text.items c.push_comma.new.text.items new index cells (omega (arith, counted.1, c.loop-index-test.true)) c.in_ok-push_comma.ensures.ok
    (subst (Appends (cell_data string (get_or cells index absent)) c.push_comma.new.text.items new) c.if-not-branch.false c.in_ok-push_variable.ensures.ok) c.loop-index.invariant
