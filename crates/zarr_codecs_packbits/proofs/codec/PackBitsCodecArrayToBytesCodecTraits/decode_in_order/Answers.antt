use Rattle.std.proofs.Common.{◌≡◌, ◌<◌, ◌∙◌, ap, sym, subst, length, arith, true, false, [], Vec, Global, Option}
use Rattle.std.specs.Prelude.{MatchOption, unwrap_or}
use Rattle.zarr_grids_boxes.specs.Boxes.{product}
use Rattle.zarr_codecs_meaning.specs.Decoding.{without_padding}
use Rattle.zarr_codecs_meaning.specs.Fits.{fits, packed_size}
use Rattle.zarr_codecs_meaning.specs.Types.{bytes_in, components}
use Rattle.zarr_codecs_arrays.specs.Views.{elements_of}
use Rattle.zarr_codecs_types.specs.Views.{components_of, type_of}
use Rattle.zarr_codecs_types.specs.declared.data_type.Component.{Component}
use Rattle.zarr_codecs_packbits.specs.Packing.{IsUncounted, Suits, bytes_of}
use Rattle.zarr_codecs_packbits.specs.Turning.{bits_of}
use Rattle.zarr_codecs_packbits.specs.Views.{packbits_chain, padding_of}
use Rattle.zarr_codecs_packbits.specs.declared.turning.Turn.{Turn}
use Rattle.zarr_codecs_packbits.proofs.PackedCells.{fixed_where, packbits_decodes, uncounted}
use Rattle.zarr_codecs_packbits.proofs.codec.PackBitsCodecArrayToBytesCodecTraits.decode_in_order.Goals as goal

pub returns : goal.returns
returns c =
    let codec = c.args.self.now in
    let padding = padding_of codec.padding in
    let first = unwrap_or codec.first_bit 0 in
    let last = codec.last_bit in
    let elements = elements_of c.args.elements.now in
    let shape = c.args.shape.now in
    let type = type_of c.data_type-data_type.result.now in
    let value = c.args.value.items in
    let count = c.in-Some-count_places.count in
    let same = c.data_type-data_type.ensures in
    let suits : Suits codec type c.in-Some.parts.items = subst (λ (o : Option (Vec Component Global)). MatchOption o (fits (packbits_chain codec) type [] ≡ false) (λ parts. Suits codec type parts.items)) c.in-Some.is c.in_ok-parts.ensures in
    let fit : fits (packbits_chain codec) elements.type shape ≡ true = ap (λ t. fits (packbits_chain codec) t shape) (sym same) ∙ suits.fit in
    let one_size = fixed_where padding first last type [] suits.fit in
    let some : 0 < bytes_in (components elements.type) = subst (λ t. 0 < bytes_in (components t)) same (c.has_bytes.ensures one_size c.if-not-has_bytes.false) in
    let many : count ≡ product shape = c.in-Some-count_places.ensures.1 in
    let parts : components_of c.as_slice-2.result.now ≡ components elements.type = ap components_of c.as_slice-2.ensures.value ∙ (suits.are ∙ ap components same) in
    let others : components_of c.as_slice-3.result.now ≡ components elements.type = ap components_of c.as_slice-3.ensures.value ∙ (suits.are ∙ ap components same) in
    let sized : length value ≡ c.in-Some-packed_size.size = omega arith in
    let told : c.in-Some-packed_size.size ≡ packed_size padding first last (components elements.type) (product shape) =
    c.in-Some-packed_size.ensures.1 ∙ (ap (λ (t : Turn). packed_size padding t.first t.last (components_of c.as_slice-2.result.now) count) c.turn.ensures
    ∙ (ap (λ ps. packed_size padding first last ps count) parts ∙ ap (packed_size padding first last (components elements.type)) many)) in
    let is = c.in_ok-bytes.ensures
    ∙ (ap (λ ps. bytes_of first last ps count (bits_of (without_padding padding c.as_slice-4.result.now))) others
    ∙ (ap (λ n. bytes_of first last (components elements.type) n (bits_of (without_padding padding c.as_slice-4.result.now))) many
    ∙ ap (λ ns. bytes_of first last (components elements.type) (product shape) (bits_of (without_padding padding ns))) c.as_slice-4.ensures.value)) in
    packbits_decodes padding first last elements shape value c.in_ok-bytes.bytes.items fit some (sized ∙ told) is

pub returns-in_default-count_places : goal.returns-in_default-count_places
returns-in_default-count_places c =
    let codec = c.args.self.now in
    let padding = padding_of codec.padding in
    let first = unwrap_or codec.first_bit 0 in
    let last = codec.last_bit in
    let elements = elements_of c.args.elements.now in
    let shape = c.args.shape.now in
    let type = type_of c.data_type-data_type.result.now in
    let value = c.args.value.items in
    let same = c.data_type-data_type.ensures in
    let suits : Suits codec type c.in-Some.parts.items = subst (λ (o : Option (Vec Component Global)). MatchOption o (fits (packbits_chain codec) type [] ≡ false) (λ parts. Suits codec type parts.items)) c.in-Some.is c.in_ok-parts.ensures in
    let fit : fits (packbits_chain codec) elements.type shape ≡ true = ap (λ t. fits (packbits_chain codec) t shape) (sym same) ∙ suits.fit in
    let one_size = fixed_where padding first last type [] suits.fit in
    let some : 0 < bytes_in (components elements.type) = subst (λ t. 0 < bytes_in (components t)) same (c.has_bytes.ensures one_size c.if-not-has_bytes.false) in
    uncounted padding first last elements shape value c.error_of_uncounted.result fit some c.in_default-count_places.ensures (subst (λ ns. IsUncounted ns c.error_of_uncounted.result) c.as_slice.ensures.value c.error_of_uncounted.ensures)
