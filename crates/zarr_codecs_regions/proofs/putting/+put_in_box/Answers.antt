use Rattle.std.proofs.Common.{◌≡◌, ◌∙◌, ℕ, List, refl, sym, ap, Some, length, map}
use Rattle.std.specs.List.{range_with_len}
use Rattle.std.proofs.lemmas.Result.{IfOk-weaker}
use Rattle.zarr_grids_boxes.specs.Boxes.{product}
use Rattle.zarr_grids_boxes.specs.Subsets.{region_of}
use Rattle.zarr_codecs_meaning.specs.Payloads.{cells_in, variable, optional}
use Rattle.zarr_codecs_meaning.specs.Types.{optional_of}
use Rattle.zarr_codecs_types.specs.Views.{type_of}
use Rattle.zarr_codecs_arrays.specs.Views as views
use Rattle.zarr_codecs_arrays.specs.Views.{payload_of}
use Rattle.zarr_codecs_traits.specs.Indexers.{numbers_of}
use Rattle.zarr_codecs_regions.specs.Pieces.{piece_of}
use Rattle.zarr_codecs_regions.specs.Taken.{ArePieces}
use Rattle.zarr_codecs_regions.specs.Updates.{put}
use Rattle.zarr_codecs_regions.proofs.MaskNumbers.{put_masked_cells}
use Rattle.zarr_codecs_regions.proofs.PiecesPut.{put_pieces_cells}
use Rattle.zarr_codecs_regions.proofs.putting.+put_in_box.Goals as goal

pub returns-in-Variable-update : goal.returns-in-Variable-update
returns-in-Variable-update t c = λ before given b old g new.
    let type = type_of c.args.data_type.now in
    let shape : List ℕ = c.args.shape.now in
    let numbers = numbers_of shape (region_of c.args.region.now) in
    let bytes : List ℕ = c.as_slice-in-Variable-update.result.now in
    let offsets : List ℕ = views.numbers_of c.in-Variable.offsets in
    let others : List ℕ = c.as_slice-in-Variable-update-2.result.now in
    let cuts : List ℕ = views.numbers_of c.in-Variable-update.ends in
    let ps = put numbers (map (piece_of cuts others) (range_with_len 0 (length numbers))) (map (piece_of offsets bytes) (range_with_len 0 (product shape))) in
    let array-is = ap payload_of c.in-Variable.is ∙ ap (λ bs. variable bs offsets) (sym c.as_slice-in-Variable-update.ensures.value) in
    let update-is = ap payload_of c.in-Variable-update.is ∙ ap (λ bs. variable bs cuts) (sym c.as_slice-in-Variable-update-2.ensures.value) in
    let made = put_pieces_cells type (payload_of c.args.bytes) (payload_of c.args.update.now) offsets bytes cuts others before given numbers (product shape) array-is update-is b old g new ps refl in
    IfOk-weaker c.put_pieces.result (ArePieces ps) (λ a. cells_in type (payload_of a) ≡ Some (put numbers given before)) (λ a e. ap (cells_in type) e ∙ made) c.put_pieces.ensures

pub returns-in-Optional-data_type : goal.returns-in-Optional-data_type
returns-in-Optional-data_type t c = λ before given b old g new.
    let whole = type_of c.args.data_type.now in
    let numbers = numbers_of c.args.shape.now (region_of c.args.region.now) in
    let type = type_of c.deref-in-Optional-data_type.result.now in
    let inner = payload_of c.into_inner-inner.result in
    let others = payload_of c.deref.result.now in
    let made = payload_of c.in_ok-made-in-Optional-data_type.made in
    let mask : List ℕ = c.in-Optional.mask.items in
    let marks : List ℕ = c.in-Optional-update.marks.items in
    let after : List ℕ = c.in_ok-mask-in-Optional-data_type.mask.items in
    let t-is : whole ≡ optional_of type = ap type_of c.in-Optional-data_type.is ∙ ap (λ x. optional_of (type_of x)) (sym c.deref-in-Optional-data_type.ensures) in
    let array-is : payload_of c.args.bytes ≡ optional inner mask = ap payload_of c.in-Optional.is ∙ ap (λ x. optional (payload_of x) mask) (sym c.into_inner-inner.ensures) in
    let update-is : payload_of c.args.update.now ≡ optional others marks = ap payload_of c.in-Optional-update.is ∙ ap (λ x. optional (payload_of x) marks) (sym c.deref.ensures) in
    let after-is : after ≡ put numbers marks mask = c.in_ok-mask-in-Optional-data_type.ensures ∙ ap (λ ms. put numbers ms mask) c.as_slice-in-Optional-data_type.ensures.value in
    let cells = put_masked_cells whole type (payload_of c.args.bytes) (payload_of c.args.update.now) inner others made mask marks after before given numbers (product c.args.shape.now) t-is array-is update-is after-is c.in_ok-made-in-Optional-data_type.ensures b old g new in
    IfOk-weaker c.masked.result (λ a. payload_of a ≡ optional made after) (λ a. cells_in whole (payload_of a) ≡ Some (put numbers given before)) (λ a e. ap (cells_in whole) e ∙ cells) c.masked.ensures
