use Rattle.std.proofs.Common.{List, subst}
use Rattle.zarr_codecs_types.specs.Views.{type_of}
use Rattle.zarr_codecs_array_to_array.specs.declared.codec.ArrayToArrayCodec.{ArrayToArrayCodec}
use Rattle.zarr_codecs_traits.specs.Representations.{RepresentsArray}
use Rattle.zarr_codecs_around.specs.Views.{codecs_of, with_array_codecs}
use Rattle.zarr_sharding_chains.specs.Views.{others_meaning}
use Rattle.zarr_sharding_chains.proofs.sharded_chain.ShardedChainArrayToBytesCodecTraits.encoded_representation.Goals as goal

pub returns : goal.returns
returns g c =
    let rest = others_meaning g.I.ArrayToBytesCodecTraits.meaning g.B.BytesToBytesCodecTraits.meaning c.args.self.now in
    subst (λ (codecs : List ArrayToArrayCodec). RepresentsArray (with_array_codecs (codecs_of codecs) rest) (type_of c.args.data_type.now) c.args.shape.now c.represent_after.result) c.as_slice-codecs.ensures.value c.represent_after.ensures
