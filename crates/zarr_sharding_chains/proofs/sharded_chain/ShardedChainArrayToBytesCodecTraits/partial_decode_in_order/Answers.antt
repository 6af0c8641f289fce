use Rattle.std.proofs.Common.{◌≤◌, ◌+◌, List, subst}
use Rattle.zarr_codecs_arrays.specs.Views.{elements_of}
use Rattle.zarr_codecs_array_to_array.specs.declared.codec.ArrayToArrayCodec.{ArrayToArrayCodec}
use Rattle.zarr_codecs_traits.specs.Indexers.{asked_of}
use Rattle.zarr_codecs_traits.specs.Arrays.{coded}
use Rattle.zarr_codecs_traits.specs.Outcomes.{DecodesPart}
use Rattle.zarr_codecs_traits.specs.ReadBytes.{most_read}
use Rattle.zarr_codecs_around.specs.Views.{codecs_of, with_array_codecs}
use Rattle.zarr_sharding_chains.specs.Views.{others_meaning}
use Rattle.zarr_sharding_chains.proofs.sharded_chain.ShardedChainArrayToBytesCodecTraits.partial_decode_in_order.Goals as goal

pub returns-clause-part : goal.returns-clause-part
returns-clause-part g c = λ honest.
    let D = g.D.BytesPartialDecoderTraits in
    let rest = others_meaning g.I.ArrayToBytesCodecTraits.meaning g.B.BytesToBytesCodecTraits.meaning c.args.self.now in
    subst (λ (codecs : List ArrayToArrayCodec). DecodesPart (coded (with_array_codecs (codecs_of codecs) rest) (elements_of c.args.part.elements.now) c.args.part.shape.now) (D.contents c.args.source.now) (asked_of c.args.part.indexer) c.decode_part_after.result)
    c.as_slice-array_to_array.ensures.value (c.decode_part_after.ensures.part honest)

pub returns-clause-given : goal.returns-clause-given
returns-clause-given g c = λ honest.
    let D = g.D.BytesPartialDecoderTraits in
    let rest = others_meaning g.I.ArrayToBytesCodecTraits.meaning g.B.BytesToBytesCodecTraits.meaning c.args.self.now in
    let old = D.given_bytes c.args.source.now in
    let new = D.given_bytes c.decode_part_after.new.source in
    subst (λ (codecs : List ArrayToArrayCodec). new ≤ old + most_read (with_array_codecs (codecs_of codecs) rest) (elements_of c.args.part.elements.now).type c.args.part.shape.now (D.contents c.args.source.now) (asked_of c.args.part.indexer)) c.as_slice-array_to_array.ensures.value
    (c.decode_part_after.ensures.given honest)
