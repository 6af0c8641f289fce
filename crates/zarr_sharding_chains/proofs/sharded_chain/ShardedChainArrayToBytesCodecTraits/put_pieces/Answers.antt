use Rattle.std.proofs.Common.{List, sym, subst}
use Rattle.zarr_codecs_arrays.specs.Views.{elements_of}
use Rattle.zarr_codecs_array_to_array.specs.declared.codec.ArrayToArrayCodec.{ArrayToArrayCodec}
use Rattle.zarr_codecs_traits.specs.Arrays.{coded}
use Rattle.zarr_codecs_traits.specs.Outcomes.{Decodes}
use Rattle.zarr_codecs_around.specs.ArrayCodecs.{shape_after}
use Rattle.zarr_codecs_around.specs.Pieces.{IsCutInside}
use Rattle.zarr_codecs_around.specs.Views.{codecs_of, with_array_codecs}
use Rattle.zarr_sharding_codec.specs.Pieces.{IsCut}
use Rattle.zarr_sharding_chains.specs.Pieces.{around_shard}
use Rattle.zarr_sharding_chains.specs.Views.{others_meaning}
use Rattle.zarr_sharding_chains.proofs.sharded_chain.ShardedChainArrayToBytesCodecTraits.put_pieces.Goals as goal

pub returns : goal.returns
returns g c = λ value cut made.
    let I = g.I.ArrayToBytesCodecTraits in
    let bytes = g.B.BytesToBytesCodecTraits.meaning in
    let around = around_shard I.meaning I.is_function bytes c.args.self.now in
    let rest = others_meaning I.meaning bytes c.args.self.now in
    let elements = elements_of c.args.elements.now in
    let shape = c.args.shape.now in
    let same = c.as_slice-array_to_array.ensures.value in
    let given = subst (λ (codecs : List ArrayToArrayCodec). IsCutInside (IsCut (coded around.shard elements (shape_after (codecs_of codecs) shape))) around.behind value c.args.pieces) (sym same) cut in
    subst (λ (codecs : List ArrayToArrayCodec). Decodes (coded (with_array_codecs (codecs_of codecs) rest) elements shape) value c.put_after.result) same (c.put_after.ensures value given made)
