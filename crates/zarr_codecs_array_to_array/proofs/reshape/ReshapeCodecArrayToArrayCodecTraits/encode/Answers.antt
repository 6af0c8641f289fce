use Rattle.std.proofs.Common.{◌∙◌, refl, sym}
use Rattle.zarr_grids_boxes.specs.Boxes.{product}
use Rattle.zarr_codecs_meaning.specs.Places.{place_numbers}
use Rattle.zarr_codecs_arrays.specs.Views.{elements_of, payload_of}
use Rattle.zarr_codecs_array_to_array.specs.Views.{reshape_of}
use Rattle.zarr_codecs_array_to_array.proofs.Routes.{gathers_moves, range_below}
use Rattle.zarr_codecs_array_to_array.proofs.reshape.ReshapeCodecArrayToArrayCodecTraits.encode.Goals as goal

pub returns : goal.returns
returns c =
    let shape = c.args.shape.now in
    gathers_moves (reshape_of c.args.self.now) (elements_of c.args.elements.now) shape (product shape) (place_numbers shape) (place_numbers shape) (payload_of c.args.bytes) c.kept.result (sym c.fits.ensures ∙ c.if-not-fits.false) refl refl (range_below (product shape)) c.kept.ensures
