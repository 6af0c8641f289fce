use Rattle.std.proofs.Common.{◌∙◌, sym, ap, rules, ◌≡◌, replicate, Some}
use Rattle.std.proofs.lemmas.Result.{IfOk-weaker}
use Rattle.zarr_codecs_meaning.specs.Types.{is_value, optional_of, present, zero_cell}
use Rattle.zarr_codecs_meaning.specs.Payloads.{cells_in, optional}
use Rattle.zarr_codecs_meaning.proofs.Zeros.{zero_is_value}
use Rattle.zarr_codecs_types.specs.Views.{type_of, cell_of}
use Rattle.zarr_codecs_arrays.specs.Views.{payload_of}
use Rattle.zarr_codecs_arrays.proofs.Fillings.{absent_filled, present_filled}
use Rattle.zarr_codecs_arrays.proofs.filling.+filled.Goals as goal

pub filled-requires : goal.filled-requires
filled-requires t c =
    let type = c.deref-in-Optional.result.now in
    let same = c.deref.ensures ∙ sym c.deref-in-Optional.ensures in
    (search rules, ap (is_value (type_of type)) c.in_ok-zero-in-Optional.ensures ∙ (ap (λ x. is_value (type_of type) (zero_cell (type_of x))) same ∙ zero_is_value (type_of type)))

pub returns-in_ok-inner-in-Optional : goal.returns-in_ok-inner-in-Optional
returns-in_ok-inner-in-Optional t c =
    let count = c.args.count in
    let whole = type_of c.args.data_type.now in
    let type = type_of c.deref-in-Optional.result.now in
    let inner = payload_of c.in_ok-inner-in-Optional.inner in
    let t-eq : whole ≡ optional_of type = ap type_of c.in-Optional.is ∙ ap (λ x. optional_of (type_of x)) (sym c.deref-in-Optional.ensures) in
    IfOk-weaker c.masked.result (λ a. payload_of a ≡ optional inner (replicate count 0)) (λ a. cells_in whole (payload_of a) ≡ Some (replicate count (cell_of c.args.cell.now)))
    (λ a e. absent_filled whole type (payload_of a) inner count (cell_of c.in_ok-zero-in-Optional.zero) t-eq e c.in_ok-inner-in-Optional.ensures ∙ ap (λ x. Some (replicate count (cell_of x))) (sym c.in-Absent.is))
    c.masked.ensures

pub returns-in_ok-inner-in-Optional-data_type : goal.returns-in_ok-inner-in-Optional-data_type
returns-in_ok-inner-in-Optional-data_type t c =
    let count = c.args.count in
    let whole = type_of c.args.data_type.now in
    let type = type_of c.deref-in-Optional-data_type.result.now in
    let inner = payload_of c.in_ok-inner-in-Optional-data_type.inner in
    let cell = c.deref-in-Optional-data_type-2.result.now in
    let f = c.in_ok-inner-in-Optional-data_type.ensures in
    let t-eq : whole ≡ optional_of type = ap type_of c.in-Optional-data_type.is ∙ ap (λ x. optional_of (type_of x)) (sym c.deref-in-Optional-data_type.ensures) in
    IfOk-weaker c.masked-in-Optional-data_type.result (λ a. payload_of a ≡ optional inner (replicate count 1)) (λ a. cells_in whole (payload_of a) ≡ Some (replicate count (cell_of c.args.cell.now)))
    (λ a e. present_filled whole type (payload_of a) inner count (cell_of cell) t-eq e f ∙ ap (λ x. Some (replicate count x)) (ap (λ x. present (cell_of x)) c.deref-in-Optional-data_type-2.ensures ∙ sym (ap cell_of c.in-Present.is)))
    c.masked-in-Optional-data_type.ensures
