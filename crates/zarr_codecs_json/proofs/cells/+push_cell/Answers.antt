use Rattle.std.proofs.Common.{◌∷◌, [], refl, subst, rules, true, false, get_or}
use Rattle.std.proofs.lemmas.Result.{IfOk-weaker}
use Rattle.zarr_codecs_meaning.specs.Types.{absent}
use Rattle.zarr_codecs_types.specs.FillMetadata.{cell_data}
use Rattle.zarr_codecs_types.specs.Views.{type_of}
use Rattle.zarr_codecs_arrays.specs.Views.{payload_of}
use Rattle.zarr_codecs_json.specs.Texts.{Appends, all_cells}
use Rattle.zarr_codecs_json.proofs.PrintedCells.{optional_at, absent_data, present_data, same_appends, one_appended, one_refused}
use Rattle.zarr_codecs_json.proofs.PrintedTexts.{begins_same, begins_more, begins_trans, after_error}
use Rattle.zarr_codecs_json.proofs.cells.+push_cell.Goals as goal

pub push_optional-bounds-mask-index : goal.push_optional-bounds-mask-index
push_optional-bounds-mask-index t c = (optional_at (type_of c.args.of_type.now) (payload_of c.args.inner.now) c.args.mask.now c.args.index c.requires).marked

pub push_optional-returns-then-mask-index-eq0-clause-ok : goal.push_optional-returns-then-mask-index-eq0-clause-ok
push_optional-returns-then-mask-index-eq0-clause-ok t c =
    let type = type_of c.args.of_type.now in
    let below = payload_of c.args.inner.now in
    let mask = c.args.mask.now in
    let at = optional_at type below mask c.args.index c.requires in
    IfOk-weaker c.push_null.result _ _ (λ b h. same_appends _ _ c.args.text.now.items c.push_null.new.text.items b (absent_data type below mask c.args.index at c.if-mask-index-eq0.true) h) (c.push_null.ensures.ok type)

pub push_optional-push_cell-requires : goal.push_optional-push_cell-requires
push_optional-push_cell-requires t c = (search rules, (optional_at (type_of c.args.of_type.now) (payload_of c.args.inner.now) c.args.mask.now c.args.index c.requires).stands)

pub push_optional-returns-in_err-push_cell-clause-err : goal.push_optional-returns-in_err-push_cell-clause-err
push_optional-returns-in_err-push_cell-clause-err t c =
    let old = c.args.text.now.items in
    after_error _ _ (begins_trans old c.push.new.self.items c.push_cell.new.text.items (begins_more old old (91 ∷ []) c.push.new.self.items (begins_same old old refl) c.in_ok-push.ensures.items) c.in_err-push_cell.ensures.err)

pub push_optional-returns-then-not-branch-clause-ok : goal.push_optional-returns-then-not-branch-clause-ok
push_optional-returns-then-not-branch-clause-ok t c =
    let type = type_of c.args.of_type.now in
    let below = payload_of c.args.inner.now in
    let mask = c.args.mask.now in
    let old = c.args.text.now.items in
    let opened = c.push.new.self.items in
    let new = c.push_cell.new.text.items in
    let at = optional_at type below mask c.args.index c.requires in
    let o = cell_data type (get_or (all_cells type below) c.args.index absent) in
    same_appends _ _ old new false (present_data type below mask c.args.index at c.if-mask-index-eq0.false) (one_refused o old opened new c.in_ok-push.ensures.items (subst (Appends o opened new) c.if-not-branch.true c.in_ok-push_cell.ensures.ok))

pub push_optional-returns-clause-ok : goal.push_optional-returns-clause-ok
push_optional-returns-clause-ok t c =
    let type = type_of c.args.of_type.now in
    let below = payload_of c.args.inner.now in
    let mask = c.args.mask.now in
    let old = c.args.text.now.items in
    let opened = c.push.new.self.items in
    let new = c.push_cell.new.text.items in
    let at = optional_at type below mask c.args.index c.requires in
    let o = cell_data type (get_or (all_cells type below) c.args.index absent) in
    same_appends _ _ old c.push-2.new.self.items true (present_data type below mask c.args.index at c.if-mask-index-eq0.false)
    (one_appended o old opened new c.push-2.new.self.items c.in_ok-push.ensures.items (subst (Appends o opened new) c.if-not-branch.false c.in_ok-push_cell.ensures.ok) c.in_ok-push-2.ensures.items)
