use Rattle.std.proofs.Common.{◌∙◌, sym, subst, true}
use Rattle.zarr_codecs_arrays.specs.Views.{elements_of, payload_of}
use Rattle.zarr_codecs_traits.specs.Arrays.{coded}
use Rattle.zarr_codecs_traits.specs.Outcomes.{Encodes}
use Rattle.zarr_codecs_around.proofs.inner_codec.encode_row_major.Goals as goal

pub returns-then-encoding_is_function : goal.returns-then-encoding_is_function
returns-then-encoding_is_function g c =
    subst (λ exact. Encodes (coded (g.A.ArrayToBytesCodecTraits.meaning c.args.codec.now) (elements_of c.args.array.elements.now) c.args.array.shape.now) exact (payload_of c.args.bytes) c.encode_in_order.result)
    (sym c.encoding_is_function.ensures ∙ c.if-encoding_is_function.true) c.encode_in_order.ensures

pub returns : goal.returns
returns g c =
    let elements = elements_of c.args.array.elements.now in
    let shape = c.args.array.shape.now in
    let payload = payload_of c.args.bytes in
    let A = g.A.ArrayToBytesCodecTraits in
    let alike = subst (λ exact. Encodes (coded (A.meaning c.in_ok-row_major.row_major) elements shape) exact payload c.encode_in_order-2.result) c.in_ok-row_major.ensures.function c.encode_in_order-2.ensures in
    subst (λ chain. Encodes (coded chain elements shape) true payload c.encode_in_order-2.result) c.in_ok-row_major.ensures.meaning alike
