use Rattle.std.proofs.Common.{◌∙◌, refl, sym, ap, map, flat_map, option_and_then}
use Rattle.zarr_codecs_types.specs.Parts.{word_sized}
use Rattle.zarr_codecs_meaning.specs.Types.{byte_width}
use Rattle.zarr_codecs_meaning.specs.Payloads.{fixed}
use Rattle.zarr_codecs_meaning.specs.Places.{place_numbers}
use Rattle.zarr_codecs_arrays.specs.Views.{elements_of}
use Rattle.zarr_codecs_regions.proofs.Gathers.{fixed_payload, bytes_at}
use Rattle.zarr_codecs_strides.specs.Strides.{walked}
use Rattle.zarr_codecs_array_to_array.specs.Moving.{picked_number}
use Rattle.zarr_codecs_array_to_array.proofs.strided.gathered_fixed.Goals as goal

pub returns : goal.returns
returns c cells h all =
    let elements = elements_of c.args.elements.now in
    let bytes = c.args.bytes.now in
    let from = c.args.route.from.now in
    let width = c.in-Some.width in
    let numbers = map (picked_number from c.args.route.picks.now c.args.route.to.now) (place_numbers from) in
    let told = sym c.in-Some.is ∙ (c.byte_width.ensures ∙ ap (λ t. option_and_then word_sized (byte_width t)) c.data_type.ensures) in
    let is = c.in_ok-gathered.ensures ∙ (ap (λ ns. walked width bytes 0 from ns) c.as_slice.ensures.value ∙ ap (flat_map (bytes_at width bytes)) c.in_ok-strides.ensures) in
    fixed_payload elements.type (fixed bytes) width bytes c.in_ok-gathered.gathered.items cells elements.fill numbers told refl is h all
