use Rattle.std.proofs.Common.{List, sym, subst}
use Rattle.zarr_codecs_meaning.specs.Payloads.{Payload}
use Rattle.zarr_codecs_arrays.specs.Views.{elements_of}
use Rattle.zarr_codecs_array_to_array.specs.declared.codec.ArrayToArrayCodec.{ArrayToArrayCodec}
use Rattle.zarr_codecs_traits.specs.Arrays.{coded}
use Rattle.zarr_codecs_traits.specs.Outcomes.{Encodes}
use Rattle.zarr_codecs_traits.specs.declared.pieces.ArrayPieces.{ArrayPieces}
use Rattle.zarr_codecs_around.specs.ArrayCodecs.{shape_after}
use Rattle.zarr_codecs_around.specs.Pieces.{EncodesAs, IsCutBefore, IsCutMoved}
use Rattle.zarr_codecs_around.specs.Views.{codecs_of, with_array_codecs}
use Rattle.zarr_sharding_codec.specs.Pieces.{IsCutArray}
use Rattle.zarr_sharding_chains.specs.Pieces.{around_shard}
use Rattle.zarr_sharding_chains.specs.Views.{others_meaning}
use Rattle.zarr_sharding_chains.proofs.sharded_chain.ShardedChainArrayToBytesCodecTraits.join_pieces.Goals as goal

pub returns : goal.returns
returns g c = λ payload cut made.
    let I = g.I.ArrayToBytesCodecTraits in
    let bytes = g.B.BytesToBytesCodecTraits.meaning in
    let around = around_shard I.meaning I.is_function bytes c.args.self.now in
    let rest = others_meaning I.meaning bytes c.args.self.now in
    let elements = elements_of c.args.elements.now in
    let shape = c.args.shape.now in
    let same = c.as_slice-array_to_array.ensures.value in
    let given = subst
    (λ (codecs : List ArrayToArrayCodec). IsCutMoved (λ (moved : Payload) (pieces : ArrayPieces). IsCutBefore (IsCutArray (coded around.shard elements (shape_after (codecs_of codecs) shape)) moved) around.behind around.exact pieces)
    (EncodesAs around.exact (coded (with_array_codecs (codecs_of codecs) rest) elements shape) (coded rest elements (shape_after (codecs_of codecs) shape)) payload) c.args.pieces)
    (sym same) cut in
    subst (λ (codecs : List ArrayToArrayCodec). Encodes (coded (with_array_codecs (codecs_of codecs) rest) elements shape) around.exact payload c.join_after.result) same (c.join_after.ensures payload given made)
