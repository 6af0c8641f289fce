use Rattle.std.proofs.Common.{◌≡◌, ◌∙◌, ap, sym, true, ◌==◌}
use Rattle.std.specs.List.{list_all}
use Rattle.std.proofs.lemmas.Result.{IfOk-weaker}
use Rattle.zarr_codecs_meaning.specs.Payloads.{fixed, variable}
use Rattle.zarr_codecs_types.specs.Views.{type_of}
use Rattle.zarr_codecs_arrays.specs.Views.{payload_of, numbers_of}
use Rattle.zarr_codecs_sections.specs.Marks.{AreMarked, spread_bytes, spread_offsets}
use Rattle.zarr_codecs_sections.proofs.ChosenCells.{fixed_parts}
use Rattle.zarr_codecs_sections.proofs.SpreadCells.{all_marked, fixed_marked, variable_marked}
use Rattle.zarr_codecs_sections.proofs.spreading.spread_elements.Goals as goal

pub returns-then-is_all : goal.returns-then-is_all
returns-then-is_all c cells lists count =
    let all : list_all (λ m. m == 1) c.args.marks.now ≡ true = sym c.is_all.ensures ∙ c.if-is_all.true in
    all_marked (type_of c.args.data_type.now) (payload_of c.args.elements) c.args.marks.now cells all lists count

pub returns-in-Fixed : goal.returns-in-Fixed
returns-in-Fixed c cells lists count =
    let type = type_of c.args.data_type.now in
    let marks = c.args.marks.now in
    let bytes = c.in-Fixed.bytes.items in
    let parts = fixed_parts type (payload_of c.args.elements) bytes cells (ap payload_of c.in-Fixed.is) lists in
    IfOk-weaker c.spread_fixed.result (λ made. payload_of made ≡ fixed (spread_bytes parts.width marks c.as_slice.result.now)) (λ made. AreMarked type marks cells (payload_of made))
    (λ made e. fixed_marked type (payload_of made) parts.width bytes marks cells count parts.told parts.inside (e ∙ ap (λ bs. fixed (spread_bytes parts.width marks bs)) c.as_slice.ensures.value)) (c.spread_fixed.ensures parts.width parts.told)

pub returns-in-Variable : goal.returns-in-Variable
returns-in-Variable c cells lists count =
    let type = type_of c.args.data_type.now in
    let marks = c.args.marks.now in
    let bytes = c.in-Variable.bytes.items in
    let offsets = numbers_of c.in-Variable.offsets in
    IfOk-weaker c.spread_variable.result (λ made. payload_of made ≡ variable bytes (spread_offsets marks c.as_slice-in-Variable.result.now)) (λ made. AreMarked type marks cells (payload_of made))
    (λ made e. variable_marked type (payload_of c.args.elements) (payload_of made) bytes offsets marks cells (ap payload_of c.in-Variable.is) lists count (e ∙ ap (λ os. variable bytes (spread_offsets marks os)) c.as_slice-in-Variable.ensures)) c.spread_variable.ensures
