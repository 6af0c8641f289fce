use Rattle.std.proofs.Common.{◌≡◌, ◌∙◌, ◌+◌, ◌-◌, ◌*◌, sym, refl, ap, arith, take, drop, get_or}
use Rattle.std.proofs.lemmas.Result.{IfOk-weaker}
use Rattle.zarr_codecs_meaning.specs.Types.{absent, of_bytes}
use Rattle.zarr_codecs_meaning.specs.Payloads.{fixed}
use Rattle.zarr_codecs_types.specs.FillMetadata.{cell_data}
use Rattle.zarr_codecs_types.specs.Views.{type_of}
use Rattle.zarr_codecs_json.specs.Texts.{all_cells}
use Rattle.zarr_codecs_json.proofs.PrintedCells.{fixed_at, not_single, same_appends}
use Rattle.zarr_codecs_json.proofs.PrintedTexts.{begins_same}
use Rattle.zarr_codecs_json.proofs.cells.push_fixed.Goals as goal

pub returns-in_default-clause-ok : goal.returns-in_default-clause-ok
returns-in_default-clause-ok c = (not_single (type_of c.args.data_type.now) c.args.bytes.now c.args.index c.in_default.ensures.value c.requires, begins_same c.args.text.now.items c.args.text.now.items refl)

pub overflow_mul-start : goal.overflow_mul-start
overflow_mul-start c =
    let at = fixed_at (type_of c.args.data_type.now) c.in-Some.width c.args.bytes.now c.args.index c.in-Some.ensures.positive (sym c.in-Some.ensures.value) c.requires in
    omega (arith, at.within)

pub overflow_add-start : goal.overflow_add-start
overflow_add-start c =
    let at = fixed_at (type_of c.args.data_type.now) c.in-Some.width c.args.bytes.now c.args.index c.in-Some.ensures.positive (sym c.in-Some.ensures.value) c.requires in
    omega (arith, at.within)

pub slice_bounds-push_value-end : goal.slice_bounds-push_value-end
slice_bounds-push_value-end c =
    let at = fixed_at (type_of c.args.data_type.now) c.in-Some.width c.args.bytes.now c.args.index c.in-Some.ensures.positive (sym c.in-Some.ensures.value) c.requires in
    omega (arith, at.within)

pub returns-clause-ok : goal.returns-clause-ok
returns-clause-ok c =
    let type = type_of c.args.data_type.now in
    let width = c.in-Some.width in
    let bytes = c.args.bytes.now in
    let start = c.args.index * width in
    let at = fixed_at type width bytes c.args.index c.in-Some.ensures.positive (sym c.in-Some.ensures.value) c.requires in
    let e : (start + width) - start ≡ width = omega arith in
    IfOk-weaker c.push_value.result _ _
    (λ b h. same_appends _ (cell_data type (get_or (all_cells type (fixed bytes)) c.args.index absent)) c.args.text.now.items c.push_value.new.text.items b (ap (cell_data type) (ap (λ n. of_bytes (take n (drop start bytes))) e ∙ sym at.is)) h) c.push_value.ensures.ok
