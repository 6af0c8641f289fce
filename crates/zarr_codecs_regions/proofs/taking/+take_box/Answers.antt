use Rattle.std.proofs.Common.{◌≡◌, ◌∙◌, sym, ap, Some, ℕ, List, map, slice_index}
use Rattle.std.proofs.lemmas.Result.{IfOk-weaker}
use Rattle.zarr_grids_boxes.specs.Subsets.{region_of}
use Rattle.zarr_codecs_meaning.specs.Types.{optional_of}
use Rattle.zarr_codecs_meaning.specs.Payloads.{cells_in, variable, optional}
use Rattle.zarr_codecs_meaning.specs.Places.{gather}
use Rattle.zarr_codecs_types.specs.Views.{type_of}
use Rattle.zarr_codecs_arrays.specs.Views as views
use Rattle.zarr_codecs_arrays.specs.Views.{payload_of}
use Rattle.zarr_codecs_traits.specs.Indexers.{numbers_of}
use Rattle.zarr_codecs_regions.specs.Pieces.{piece_of}
use Rattle.zarr_codecs_regions.specs.Taken.{ArePieces}
use Rattle.zarr_codecs_regions.proofs.Gathers.{masked_payload}
use Rattle.zarr_codecs_regions.proofs.PiecesPut.{taken_cells}
use Rattle.zarr_codecs_regions.proofs.taking.+take_box.Goals as goal

pub returns-in-Variable : goal.returns-in-Variable
returns-in-Variable t c = λ cells other h all.
    let type = type_of c.args.data_type.now in
    let bytes : List ℕ = c.as_slice-in-Variable.result.now in
    let offsets : List ℕ = views.numbers_of c.in-Variable.offsets in
    let numbers = numbers_of c.args.shape.now (region_of c.args.region.now) in
    let is = ap payload_of c.in-Variable.is ∙ ap (λ bs. variable bs offsets) (sym c.as_slice-in-Variable.ensures.value) in
    let given = taken_cells type (payload_of c.args.bytes.now) offsets bytes cells other numbers is h all in
    IfOk-weaker c.take_pieces.result (ArePieces (map (piece_of offsets bytes) numbers)) (λ a. cells_in type (payload_of a) ≡ Some (gather other cells numbers))
    (λ a e. ap (cells_in type) e ∙ given) c.take_pieces.ensures

pub returns-in_ok-mask-in-Optional-data_type : goal.returns-in_ok-mask-in-Optional-data_type
returns-in_ok-mask-in-Optional-data_type t c = λ cells other h all.
    let whole = type_of c.args.data_type.now in
    let numbers = numbers_of c.args.shape.now (region_of c.args.region.now) in
    let payload = payload_of c.args.bytes.now in
    let type = type_of c.deref-in-Optional-data_type.result.now in
    let inner = payload_of c.deref.result.now in
    let made = payload_of c.in_ok-taken-in-Optional-data_type.taken in
    let marks = c.in_ok-mask-in-Optional-data_type.mask.items in
    let mask = c.in-Optional.mask.items in
    let t-is : whole ≡ optional_of type = ap type_of c.in-Optional-data_type.is ∙ ap (λ x. optional_of (type_of x)) (sym c.deref-in-Optional-data_type.ensures) in
    let p-is : payload ≡ optional inner mask = ap payload_of c.in-Optional.is ∙ ap (λ x. optional (payload_of x) mask) (sym c.deref.ensures) in
    let m-is : marks ≡ map (slice_index mask) numbers = c.in_ok-mask-in-Optional-data_type.ensures ∙ ap (λ ms. map (slice_index ms) numbers) c.as_slice-in-Optional-data_type.ensures.value in
    let given = masked_payload whole type payload inner made mask marks cells other numbers t-is p-is m-is (λ below. c.in_ok-taken-in-Optional-data_type.ensures below other) h all in
    IfOk-weaker c.masked.result (λ a. payload_of a ≡ optional made marks) (λ a. cells_in whole (payload_of a) ≡ Some (gather other cells numbers))
    (λ a e. ap (cells_in whole) e ∙ given) c.masked.ensures
