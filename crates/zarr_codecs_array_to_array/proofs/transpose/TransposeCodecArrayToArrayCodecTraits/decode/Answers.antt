use Rattle.std.proofs.Common.{◌≡◌, ◌∙◌, sym, ap, subst, map, slice_index, true, List, ℕ}
use Rattle.zarr_grids_boxes.specs.Boxes.{product}
use Rattle.zarr_codecs_meaning.specs.Chains.ArrayCodec.{transpose}
use Rattle.zarr_codecs_meaning.specs.Fits.{array_codec_fits}
use Rattle.zarr_codecs_meaning.specs.Places.{place_numbers, undone_places}
use Rattle.zarr_codecs_arrays.specs.Views.{elements_of, payload_of}
use Rattle.zarr_codecs_array_to_array.specs.Moving.{picked_number, Gathers}
use Rattle.zarr_codecs_array_to_array.specs.Views.{order_of}
use Rattle.zarr_codecs_meaning.proofs.Once.{product_moved}
use Rattle.zarr_codecs_array_to_array.proofs.Routes.{gathers_moves, undone_picked, undone_below}
use Rattle.zarr_codecs_array_to_array.proofs.transpose.TransposeCodecArrayToArrayCodecTraits.decode.Goals as goal

pub returns : goal.returns
returns c =
    let shape = c.args.shape.now in
    let elements = elements_of c.args.elements.now in
    let payload = payload_of c.args.bytes in
    let order = order_of c.args.self.now.order in
    let picks = c.as_slice-order.result.now in
    let new_shape = map (slice_index shape) order in
    let fit : array_codec_fits (transpose order) shape ≡ true = sym c.fits.ensures ∙ c.if-not-fits.false in
    let encoded = c.deref.result.now in
    let encoded_is : encoded ≡ new_shape = c.deref.ensures.value ∙ (c.in_ok-encoded.ensures ∙ ap (map (slice_index shape)) c.as_slice-order.ensures) in
    let found = ap (λ e. map (picked_number shape picks e) (place_numbers shape)) encoded_is ∙ (ap (λ o. map (picked_number shape o new_shape) (place_numbers shape)) c.as_slice-order.ensures ∙ undone_picked order shape fit) in
    gathers_moves (transpose order) elements shape (product new_shape) (undone_places (transpose order) shape) (map (picked_number shape picks encoded) (place_numbers shape)) payload c.gathered.result fit (product_moved (transpose order) shape fit) found (undone_below (transpose order) shape fit)
    (subst (λ (e : List ℕ). Gathers elements (product e) (map (picked_number shape picks encoded) (place_numbers shape)) payload c.gathered.result) encoded_is c.gathered.ensures)
