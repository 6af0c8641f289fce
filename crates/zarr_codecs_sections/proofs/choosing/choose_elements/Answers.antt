use Rattle.std.proofs.Common.{◌≡◌, ◌∷◌, ◌∙◌, ap, sym, flat_map, true, ◌==◌}
use Rattle.std.specs.List.{list_all}
use Rattle.std.proofs.lemmas.Result.{IfOk-weaker}
use Rattle.zarr_codecs_meaning.specs.Payloads.{fixed, variable}
use Rattle.zarr_codecs_types.specs.Views.{type_of}
use Rattle.zarr_codecs_arrays.specs.Outcomes.{IsValid}
use Rattle.zarr_codecs_arrays.specs.Views.{payload_of, numbers_of}
use Rattle.zarr_codecs_sections.specs.Marks.{chosen_bytes, count_ones, ends_from, pieces_at}
use Rattle.zarr_codecs_sections.proofs.ChosenCells.{all_valid, fixed_parts, fixed_valid, variable_valid}
use Rattle.zarr_codecs_sections.proofs.choosing.choose_elements.Goals as goal

pub returns-then-is_all : goal.returns-then-is_all
returns-then-is_all c cells are values =
    let all : list_all (λ m. m == 1) c.args.marks.now ≡ true = sym c.is_all.ensures ∙ c.if-is_all.true in
    all_valid (type_of c.args.data_type.now) (payload_of c.args.elements) c.args.marks.now cells all are values

pub returns-in-Fixed : goal.returns-in-Fixed
returns-in-Fixed c cells are values =
    let type = type_of c.args.data_type.now in
    let marks = c.args.marks.now in
    let bytes = c.in-Fixed.bytes.items in
    let parts = fixed_parts type (payload_of c.args.elements) bytes are.all (ap payload_of c.in-Fixed.is) are.lists in
    IfOk-weaker c.choose_fixed.result (λ made. payload_of made ≡ fixed (chosen_bytes parts.width marks c.as_slice.result.now)) (λ made. IsValid type (payload_of made) (count_ones marks) cells)
    (λ made e. fixed_valid type (payload_of c.args.elements) (payload_of made) parts.width bytes marks cells are values parts.told parts.inside (e ∙ ap (λ bs. fixed (chosen_bytes parts.width marks bs)) c.as_slice.ensures.value)) (c.choose_fixed.ensures parts.width parts.told)

pub returns-in-Variable : goal.returns-in-Variable
returns-in-Variable c cells are values =
    let type = type_of c.args.data_type.now in
    let marks = c.args.marks.now in
    let bytes = c.in-Variable.bytes.items in
    let offsets = numbers_of c.in-Variable.offsets in
    let pieces = pieces_at marks c.as_slice-in-Variable-2.result.now c.as_slice-in-Variable.result.now in
    let same : pieces ≡ pieces_at marks offsets bytes = ap (λ os. pieces_at marks os c.as_slice-in-Variable.result.now) c.as_slice-in-Variable-2.ensures ∙ ap (pieces_at marks offsets) c.as_slice-in-Variable.ensures.value in
    IfOk-weaker c.choose_variable.result (λ made. payload_of made ≡ variable (flat_map (λ piece. piece) pieces) (0 ∷ ends_from 0 pieces)) (λ made. IsValid type (payload_of made) (count_ones marks) cells)
    (λ made e. variable_valid type (payload_of c.args.elements) (payload_of made) bytes offsets marks cells are values (ap payload_of c.in-Variable.is) (e ∙ ap (λ ps. variable (flat_map (λ piece. piece) ps) (0 ∷ ends_from 0 ps)) same)) c.choose_variable.ensures
