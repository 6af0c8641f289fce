use Rattle.std.proofs.Common.{◌∙◌, ◌<◌, ◌^◌, ap, sym, subst, inl, option_map, Ok, Some, true}
use Rattle.std.proofs.lemmas.Bool.{and_parts}
use Rattle.zarr_grids_boxes.specs.Boxes.{product}
use Rattle.zarr_grids_boxes.specs.Subsets.{region_of}
use Rattle.zarr_codecs_meaning.specs.Types.{components, is_fixed}
use Rattle.zarr_codecs_meaning.specs.Fits.{order_fits}
use Rattle.zarr_codecs_meaning.specs.Payloads.{fixed}
use Rattle.zarr_codecs_arrays.specs.Outcomes.{IsValid}
use Rattle.zarr_codecs_arrays.specs.Views.{elements_of, payload_of}
use Rattle.zarr_codecs_traits.specs.Arrays.{coded}
use Rattle.zarr_codecs_traits.specs.PartEncoding.{EncodesPart}
use Rattle.zarr_codecs_bytes.specs.Views.{bytes_chain, order_of}
use Rattle.zarr_codecs_bytes.proofs.Decoding.{IsValid-at}
use Rattle.zarr_codecs_regions.proofs.FillValues.{larger_too}
use Rattle.zarr_codecs_bytes.proofs.PartDecoding.{at_least}
use Rattle.zarr_codecs_bytes.proofs.PartWriting.{given_cells, part_encodes}
use Rattle.zarr_codecs_bytes.proofs.patches.replace_part.Goals as goal

pub returns-in_default : goal.returns-in_default
returns-in_default c =
    larger_too (elements_of c.args.part.elements.now).type c.args.part.shape.now (region_of c.args.part.region.now) c.args.part.region.now.same c.args.part.inside
    (inl (at_least (product c.args.part.region.now.shape.items) (2 ^ 63) (λ below. c.in_default.ensures (subst (λ es. product es < 2 ^ 63) (sym c.shape.ensures) below))))

pub part_patches-requires-clause-long : goal.part_patches-requires-clause-long
part_patches-requires-clause-long c =
    let type = (elements_of c.args.part.elements.now).type in
    let count = product c.args.part.region.now.shape.items in
    let found = c.in_default-validate.ensures in
    let valid = IsValid-at c.data_type.ensures (c.in-Some.ensures.1 ∙ ap product c.shape.ensures) found.1 in
    let same : IsValid type (fixed c.in-Fixed.bytes.items) count found.0 = subst (λ b. IsValid type (payload_of b) count found.0) c.in-Fixed.is valid in
    (given_cells type c.in-Fixed.bytes.items count found.0 (and_parts (is_fixed type) (order_fits (option_map order_of c.args.codec.endian) (components type)) c.requires).0 same).long

pub returns-in_ok-part_patches-in-Fixed : goal.returns-in_ok-part_patches-in-Fixed
returns-in_ok-part_patches-in-Fixed c =
    let elements = elements_of c.args.part.elements.now in
    let count = product c.args.part.region.now.shape.items in
    let found = c.in_default-validate.ensures in
    let valid = IsValid-at c.data_type.ensures (c.in-Some.ensures.1 ∙ ap product c.shape.ensures) found.1 in
    let same : IsValid elements.type (fixed c.in-Fixed.bytes.items) count found.0 = subst (λ b. IsValid elements.type (payload_of b) count found.0) c.in-Fixed.is valid in
    let patches = c.in_ok-part_patches-in-Fixed.field-0 in
    subst (λ b. EncodesPart (coded (bytes_chain c.args.codec) elements c.args.part.shape.now) true (region_of c.args.part.region.now) (payload_of b) (Ok (Some patches))) (sym c.in-Fixed.is)
    (part_encodes (option_map order_of c.args.codec.endian) c.args.part c.in-Fixed.bytes.items found.0 patches c.requires same c.in_ok-part_patches-in-Fixed.ensures)
