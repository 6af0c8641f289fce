use Rattle.std.proofs.Common.{◌≡◌, ◌∙◌, sym, ap, subst, map, slice_index, List, ℕ, true}
use Rattle.zarr_codecs_meaning.specs.Chains.ArrayCodec.{transpose}
use Rattle.zarr_codecs_meaning.specs.Fits.{array_codec_fits}
use Rattle.zarr_codecs_traits.specs.Outcomes.{IsDecodedShape}
use Rattle.zarr_codecs_array_to_array.specs.Views.{order_of}
use Rattle.zarr_codecs_array_to_array.proofs.DecodedShapes.{only_untransposed}
use Rattle.zarr_codecs_array_to_array.proofs.Routes.{inverse_of}
use Rattle.zarr_codecs_array_to_array.proofs.transpose.TransposeCodecArrayToArrayCodecTraits.decoded_shape.Goals as goal

pub returns : goal.returns
returns c =
    let shape = c.args.encoded_shape.now in
    let order = order_of c.args.self.now.order in
    let fit : array_codec_fits (transpose order) shape ≡ true = sym c.fits.ensures ∙ c.if-not-fits.false in
    let places : c.deref.result.now ≡ inverse_of order = c.deref.ensures.value ∙ (c.in_ok-places.ensures ∙ ap inverse_of c.as_slice.ensures) in
    subst (IsDecodedShape (transpose order) shape) (sym (c.in_ok-permuted.ensures ∙ ap (map (slice_index shape)) places)) (only_untransposed order shape fit)
