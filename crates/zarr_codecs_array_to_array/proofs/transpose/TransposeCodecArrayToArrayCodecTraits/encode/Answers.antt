use Rattle.std.proofs.Common.{◌≡◌, ◌∙◌, refl, sym, ap, map, slice_index, true}
use Rattle.zarr_grids_boxes.specs.Boxes.{product}
use Rattle.zarr_codecs_meaning.specs.Chains.ArrayCodec.{transpose}
use Rattle.zarr_codecs_meaning.specs.Fits.{array_codec_fits}
use Rattle.zarr_codecs_meaning.specs.Places.{place_numbers, source_places}
use Rattle.zarr_codecs_arrays.specs.Views.{elements_of, payload_of}
use Rattle.zarr_codecs_array_to_array.specs.Moving.{picked_number}
use Rattle.zarr_codecs_array_to_array.specs.Views.{order_of}
use Rattle.zarr_codecs_array_to_array.proofs.Routes.{inverse_of, gathers_moves, sources_picked, sources_below}
use Rattle.zarr_codecs_array_to_array.proofs.transpose.TransposeCodecArrayToArrayCodecTraits.encode.Goals as goal

pub returns : goal.returns
returns c =
    let shape = c.args.shape.now in
    let order = order_of c.args.self.now.order in
    let new_shape = map (slice_index shape) order in
    let fit : array_codec_fits (transpose order) shape ≡ true = sym c.fits.ensures ∙ c.if-not-fits.false in
    let encoded = c.deref.result.now in
    let places = c.deref-2.result.now in
    let encoded_is : encoded ≡ new_shape = c.deref.ensures.value ∙ (c.in_ok-encoded.ensures ∙ ap (map (slice_index shape)) c.as_slice-order.ensures) in
    let places_are : places ≡ inverse_of order = c.deref-2.ensures.value ∙ (c.in_ok-places.ensures ∙ ap inverse_of c.as_slice-order.ensures) in
    let found = ap (λ e. map (picked_number e places shape) (place_numbers e)) encoded_is ∙ (ap (λ p. map (picked_number new_shape p shape) (place_numbers new_shape)) places_are ∙ sources_picked order shape) in
    gathers_moves (transpose order) (elements_of c.args.elements.now) shape (product shape) (source_places (transpose order) shape) (map (picked_number encoded places shape) (place_numbers encoded)) (payload_of c.args.bytes) c.gathered.result fit refl found (sources_below (transpose order) shape fit) c.gathered.ensures
