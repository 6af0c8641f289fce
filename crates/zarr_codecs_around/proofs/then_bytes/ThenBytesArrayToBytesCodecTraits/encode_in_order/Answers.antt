use Rattle.std.proofs.Common.{map, subst, true}
use Rattle.zarr_codecs_arrays.specs.Views.{elements_of, payload_of}
use Rattle.zarr_codecs_traits.specs.Arrays.{coded}
use Rattle.zarr_codecs_traits.specs.Outcomes.{Encodes}
use Rattle.zarr_codecs_around.specs.ThenBytes.{then_meaning}
use Rattle.zarr_codecs_around.specs.Views.{with_codecs}
use Rattle.zarr_codecs_around.proofs.Chains.{encodes_alike}
use Rattle.zarr_codecs_around.proofs.then_bytes.ThenBytesArrayToBytesCodecTraits.encode_in_order.Goals as goal

pub returns : goal.returns
returns g c =
    let A = g.A.ArrayToBytesCodecTraits in
    let meaning = g.B.BytesToBytesCodecTraits.meaning in
    let chain = A.meaning c.args.self.now.codec in
    let elements = elements_of c.args.elements.now in
    let shape = c.args.shape.now in
    let payload = payload_of c.args.bytes in
    let r = c.encode_made.result in
    let made = c.encode_made.ensures chain elements shape payload (g.met.A.ArrayToBytesCodecTraits.lawful c.args.self.now.codec) c.args.elements.now.fills c.encode_row_major-made.ensures in
    encodes_alike (then_meaning A.meaning meaning c.args.self.now) (A.is_function c.args.self.now.codec) elements shape payload r
    (subst (λ xs. Encodes (coded (with_codecs chain (map meaning xs)) elements shape) true payload r) c.as_slice.ensures.value made)
