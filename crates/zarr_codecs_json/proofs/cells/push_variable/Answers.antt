use Rattle.std.proofs.Common.{sym, ap, arith, get_or}
use Rattle.std.proofs.lemmas.Result.{IfOk-weaker}
use Rattle.zarr_codecs_meaning.specs.Types.{absent}
use Rattle.zarr_codecs_meaning.specs.Payloads.{variable}
use Rattle.zarr_codecs_types.specs.FillMetadata.{cell_data}
use Rattle.zarr_codecs_types.specs.Views.{type_of}
use Rattle.zarr_codecs_arrays.specs.Views.{numbers_of}
use Rattle.zarr_codecs_json.specs.Texts.{all_cells}
use Rattle.zarr_codecs_json.proofs.PrintedCells.{variable_at_slice, same_appends}
use Rattle.zarr_codecs_json.proofs.cells.push_variable.Goals as goal

pub offset_bounds-offsets-index : goal.offset_bounds-offsets-index
offset_bounds-offsets-index c =
    let at = variable_at_slice (type_of c.args.data_type.now) c.as_slice-offsets.result.now (numbers_of c.args.offsets.now) c.args.bytes.now c.args.index c.as_slice-offsets.ensures c.requires in
    omega (arith, at.enough)

pub bounds-offsets-index : goal.bounds-offsets-index
bounds-offsets-index c =
    let at = variable_at_slice (type_of c.args.data_type.now) c.as_slice-offsets.result.now (numbers_of c.args.offsets.now) c.args.bytes.now c.args.index c.as_slice-offsets.ensures c.requires in
    omega (arith, at.enough)

pub overflow_add-end : goal.overflow_add-end
overflow_add-end c =
    let at = variable_at_slice (type_of c.args.data_type.now) c.as_slice-offsets.result.now (numbers_of c.args.offsets.now) c.args.bytes.now c.args.index c.as_slice-offsets.ensures c.requires in
    omega (arith, at.enough)

pub offset_bounds-offsets-index-2 : goal.offset_bounds-offsets-index-2
offset_bounds-offsets-index-2 c =
    let at = variable_at_slice (type_of c.args.data_type.now) c.as_slice-offsets.result.now (numbers_of c.args.offsets.now) c.args.bytes.now c.args.index c.as_slice-offsets.ensures c.requires in
    omega (arith, at.enough)

pub bounds-offsets-index-2 : goal.bounds-offsets-index-2
bounds-offsets-index-2 c =
    let at = variable_at_slice (type_of c.args.data_type.now) c.as_slice-offsets.result.now (numbers_of c.args.offsets.now) c.args.bytes.now c.args.index c.as_slice-offsets.ensures c.requires in
    omega (arith, at.enough)

pub slice_bounds-push_value-count : goal.slice_bounds-push_value-count
slice_bounds-push_value-count c =
    let at = variable_at_slice (type_of c.args.data_type.now) c.as_slice-offsets.result.now (numbers_of c.args.offsets.now) c.args.bytes.now c.args.index c.as_slice-offsets.ensures c.requires in
    omega (arith, at.rises)

pub slice_bounds-push_value-start : goal.slice_bounds-push_value-start
slice_bounds-push_value-start c =
    let at = variable_at_slice (type_of c.args.data_type.now) c.as_slice-offsets.result.now (numbers_of c.args.offsets.now) c.args.bytes.now c.args.index c.as_slice-offsets.ensures c.requires in
    omega (arith, at.rises, at.within)

pub slice_bounds-push_value-end : goal.slice_bounds-push_value-end
slice_bounds-push_value-end c =
    let at = variable_at_slice (type_of c.args.data_type.now) c.as_slice-offsets.result.now (numbers_of c.args.offsets.now) c.args.bytes.now c.args.index c.as_slice-offsets.ensures c.requires in
    omega (arith, at.rises, at.within)

pub returns-clause-ok : goal.returns-clause-ok
returns-clause-ok c =
    let type = type_of c.args.data_type.now in
    let at = variable_at_slice type c.as_slice-offsets.result.now (numbers_of c.args.offsets.now) c.args.bytes.now c.args.index c.as_slice-offsets.ensures c.requires in
    IfOk-weaker c.push_value.result _ _
    (λ b h. same_appends _ (cell_data type (get_or (all_cells type (variable c.args.bytes.now (numbers_of c.args.offsets.now))) c.args.index absent)) c.args.text.now.items c.push_value.new.text.items b (ap (cell_data type) (sym at.is)) h) c.push_value.ensures.ok
