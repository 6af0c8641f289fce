use Rattle.std.proofs.Common.{refl, sym, subst, ℕ}
use Rattle.zarr_grids_boxes.specs.Boxes.{product}
use Rattle.zarr_codecs_meaning.specs.Chains.ArrayCodec.{squeeze}
use Rattle.zarr_codecs_meaning.specs.Places.{place_numbers, encoded_shape, undone_places}
use Rattle.zarr_codecs_arrays.specs.Views.{elements_of, payload_of}
use Rattle.zarr_codecs_array_to_array.specs.Moving.{Gathers}
use Rattle.zarr_codecs_meaning.proofs.Once.{product_moved}
use Rattle.zarr_codecs_array_to_array.proofs.Routes.{gathers_moves, undone_range, undone_below}
use Rattle.zarr_codecs_array_to_array.proofs.squeeze.SqueezeCodecArrayToArrayCodecTraits.decode.Goals as goal

pub returns : goal.returns
returns c =
    let shape = c.args.shape.now in
    let elements = elements_of c.args.elements.now in
    let payload = payload_of c.args.bytes in
    let same = product_moved squeeze shape refl in
    gathers_moves squeeze elements shape (product (encoded_shape squeeze shape)) (undone_places squeeze shape) (place_numbers shape) payload c.kept.result refl same (sym (undone_range (product shape))) (undone_below squeeze shape refl)
    (subst (λ (k : ℕ). Gathers elements k (place_numbers shape) payload c.kept.result) same c.kept.ensures)
