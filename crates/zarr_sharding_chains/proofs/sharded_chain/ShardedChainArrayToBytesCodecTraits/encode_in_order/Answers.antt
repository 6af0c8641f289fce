use Rattle.std.proofs.Common.{List, subst}
use Rattle.zarr_codecs_arrays.specs.Views.{elements_of, payload_of}
use Rattle.zarr_codecs_array_to_array.specs.declared.codec.ArrayToArrayCodec.{ArrayToArrayCodec}
use Rattle.zarr_codecs_traits.specs.Arrays.{coded}
use Rattle.zarr_codecs_traits.specs.Outcomes.{Encodes}
use Rattle.zarr_codecs_around.specs.Views.{codecs_of, with_array_codecs}
use Rattle.zarr_sharding_chains.specs.Views.{others_meaning, sharded_function}
use Rattle.zarr_sharding_chains.proofs.sharded_chain.ShardedChainArrayToBytesCodecTraits.encode_in_order.Goals as goal

pub returns : goal.returns
returns g c =
    let rest = others_meaning g.I.ArrayToBytesCodecTraits.meaning g.B.BytesToBytesCodecTraits.meaning c.args.self.now in
    let exact = sharded_function g.I.ArrayToBytesCodecTraits.is_function c.args.self.now in
    subst (λ (codecs : List ArrayToArrayCodec). Encodes (coded (with_array_codecs (codecs_of codecs) rest) (elements_of c.args.elements.now) c.args.shape.now) exact (payload_of c.args.bytes) c.encode_after.result) c.as_slice-codecs.ensures.value c.encode_after.ensures
