use Rattle.std.proofs.Common.{◌≡◌, ◌*◌, ◌∙◌, ap, sym, subst, length, true, false, [], Vec, Global, Option}
use Rattle.std.specs.Prelude.{MatchOption, unwrap_or}
use Rattle.zarr_grids_boxes.specs.Boxes.{product}
use Rattle.zarr_codecs_meaning.specs.Encoding.{with_padding}
use Rattle.zarr_codecs_meaning.specs.Fits.{fits}
use Rattle.zarr_codecs_meaning.specs.Payloads.{fixed}
use Rattle.zarr_codecs_meaning.specs.Types.{bytes_in, components}
use Rattle.zarr_codecs_arrays.specs.Outcomes.{IsValid}
use Rattle.zarr_codecs_arrays.specs.Views.{elements_of, payload_of}
use Rattle.zarr_codecs_traits.specs.Arrays.{coded}
use Rattle.zarr_codecs_traits.specs.Outcomes.{IsEncoded}
use Rattle.zarr_codecs_types.specs.Views.{components_of, type_of}
use Rattle.zarr_codecs_types.specs.declared.data_type.Component.{Component}
use Rattle.zarr_codecs_packbits.specs.Packing.{Suits, kept_of}
use Rattle.zarr_codecs_packbits.specs.Views.{packbits_chain, padding_of}
use Rattle.zarr_codecs_packbits.proofs.PackedCells.{IsValid-at, fixed_where, given_cells, packbits_encodes}
use Rattle.zarr_codecs_packbits.proofs.codec.PackBitsCodecArrayToBytesCodecTraits.encode_in_order.Goals as goal

pub pack-requires-clause-whole : goal.pack-requires-clause-whole
pack-requires-clause-whole c =
    let codec = c.args.self.now in
    let type = type_of c.data_type-data_type.result.now in
    let count = c.in-Some-count_places.count in
    let given = c.in-Fixed.bytes.items in
    let suits : Suits codec type c.in-Some.parts.items = subst (λ (o : Option (Vec Component Global)). MatchOption o (fits (packbits_chain codec) type [] ≡ false) (λ parts. Suits codec type parts.items)) c.in-Some.is c.in_ok-parts.ensures in
    let found = c.in_default-validate.ensures in
    let valid : IsValid type (fixed given) count found.0 = subst (λ b. IsValid type (payload_of b) count found.0) c.in-Fixed.is found.1 in
    let g = given_cells type given count found.0 (fixed_where (padding_of codec.padding) (unwrap_or codec.first_bit 0) codec.last_bit type [] suits.fit) valid in
    ap length c.as_slice-in-Fixed.ensures.value ∙ (g.long ∙ ap (λ ps. count * bytes_in ps) (sym suits.are ∙ ap components_of (sym c.as_slice.ensures.value)))

pub returns-in-Fixed : goal.returns-in-Fixed
returns-in-Fixed c =
    let codec = c.args.self.now in
    let padding = padding_of codec.padding in
    let first = unwrap_or codec.first_bit 0 in
    let last = codec.last_bit in
    let elements = elements_of c.args.elements.now in
    let shape = c.args.shape.now in
    let type = type_of c.data_type-data_type.result.now in
    let given = c.in-Fixed.bytes.items in
    let made = c.in_ok-pack-in-Fixed.field-0.items in
    let same = c.data_type-data_type.ensures in
    let suits : Suits codec type c.in-Some.parts.items = subst (λ (o : Option (Vec Component Global)). MatchOption o (fits (packbits_chain codec) type [] ≡ false) (λ parts. Suits codec type parts.items)) c.in-Some.is c.in_ok-parts.ensures in
    let found = c.in_default-validate.ensures in
    let valid : IsValid elements.type (fixed given) (product shape) found.0 = subst (λ b. IsValid elements.type (payload_of b) (product shape) found.0) c.in-Fixed.is (IsValid-at same c.in-Some-count_places.ensures.1 found.1) in
    let fit : fits (packbits_chain codec) elements.type shape ≡ true = ap (λ t. fits (packbits_chain codec) t shape) (sym same) ∙ suits.fit in
    let parts : components_of c.as_slice.result.now ≡ components elements.type = ap components_of c.as_slice.ensures.value ∙ (suits.are ∙ ap components same) in
    let is : made ≡ with_padding padding (kept_of first last (components elements.type) given) =
    c.in_ok-pack-in-Fixed.ensures ∙ (ap (λ ps. with_padding padding (kept_of first last ps c.as_slice-in-Fixed.result.now)) parts ∙ ap (λ ns. with_padding padding (kept_of first last (components elements.type) ns)) c.as_slice-in-Fixed.ensures.value) in
    (found.0, subst (λ b. IsEncoded (coded (packbits_chain codec) elements shape) true (payload_of b) found.0 made) (sym c.in-Fixed.is) (packbits_encodes padding first last elements shape given made found.0 c.args.elements.now.fills fit valid is))
