use Rattle.std.proofs.Common.{◌≡◌, ◌∙◌, ap, sym, subst, option_map, true}
use Rattle.zarr_grids_boxes.specs.Boxes.{product}
use Rattle.zarr_codecs_meaning.specs.Chains.Chain.{bytes}
use Rattle.zarr_codecs_meaning.specs.Fits.{fits}
use Rattle.zarr_codecs_meaning.specs.Payloads.{fixed}
use Rattle.zarr_codecs_meaning.specs.Types.{components}
use Rattle.zarr_codecs_arrays.specs.Outcomes.{IsValid}
use Rattle.zarr_codecs_arrays.specs.Views.{elements_of, payload_of}
use Rattle.zarr_codecs_traits.specs.Arrays.{coded}
use Rattle.zarr_codecs_traits.specs.Outcomes.{IsEncoded}
use Rattle.zarr_codecs_bytes.specs.Orders.{all_ordered}
use Rattle.zarr_codecs_bytes.specs.Views.{order_of}
use Rattle.zarr_codecs_bytes.proofs.Decoding.{IsValid-at}
use Rattle.zarr_codecs_bytes.proofs.Encoding.{bytes_encodes}
use Rattle.zarr_codecs_bytes.proofs.bytes.BytesCodecArrayToBytesCodecTraits.encode_in_order.Goals as goal

pub returns-in_ok-ordered-in-Fixed : goal.returns-in_ok-ordered-in-Fixed
returns-in_ok-ordered-in-Fixed c =
    let elements = elements_of c.args.elements.now in
    let shape = c.args.shape.now in
    let order = option_map order_of c.args.self.now.endian in
    let given = c.in-Fixed.bytes.items in
    let made = c.in_ok-ordered-in-Fixed.field-0.items in
    let found = c.in_default-validate.ensures in
    let same = c.data_type-data_type.ensures in
    let valid : IsValid elements.type (fixed given) (product shape) found.0 = subst (λ b. IsValid elements.type (payload_of b) (product shape) found.0) c.in-Fixed.is (IsValid-at same c.in-Some.ensures.1 found.1) in
    let fit : fits (bytes order) elements.type shape ≡ true = ap (λ t. fits (bytes order) t shape) (sym same) ∙ (sym c.suits.ensures ∙ c.if-not-suits.false) in
    let is : made ≡ all_ordered order (components elements.type) given = c.in_ok-ordered-in-Fixed.ensures ∙ ap (λ t. all_ordered order (components t) given) same in
    (found.0, subst (λ b. IsEncoded (coded (bytes order) elements shape) true (payload_of b) found.0 made) (sym c.in-Fixed.is) (bytes_encodes order elements shape given made found.0 c.args.elements.now.fills fit valid is))
