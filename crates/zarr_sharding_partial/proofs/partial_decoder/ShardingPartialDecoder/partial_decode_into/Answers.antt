use Rattle.std.proofs.Common.{IsTrue}
use Rattle.zarr_codecs_arrays.specs.Views.{payload_of}
use Rattle.zarr_codecs_arrays.specs.declared.array_bytes.ArrayBytes.{ArrayBytes}
use Rattle.zarr_codecs_meaning.specs.Payloads.{Payload}
use Rattle.zarr_codecs_traits.specs.Indexers.{asked_of}
use Rattle.zarr_codecs_traits.proofs.Refusals.{put_refused, unread_refused}
use Rattle.zarr_sharding_partial.specs.Parts.{GivesPart}
use Rattle.zarr_sharding_partial.specs.Decoders.{shard_of}
use Rattle.zarr_sharding_partial.proofs.partial_decoder.ShardingPartialDecoder.partial_decode_into.Goals as goal

pub returns-in-Ok-clause-refused : goal.returns-in-Ok-clause-refused
returns-in-Ok-clause-refused g c =
    let source = c.args.self.now.source.now in
    let count = g.D.BytesPartialDecoderTraits.refused_calls in
    let shard = shard_of g.I.ArrayToBytesCodecTraits.meaning g.X.ArrayToBytesCodecTraits.meaning c.args.self.now in
    let reads : Payload → Type 0 = λ payload. IsTrue (g.D.BytesPartialDecoderTraits.is_honest source) → GivesPart shard (g.D.BytesPartialDecoderTraits.contents source) (asked_of c.args.indexer) payload in
    put_refused reads (g.T.ArrayBytesDecodeIntoTarget.misfits c.args.target.now) (count source) (count c.partial_decode.new.self.source.now) (payload_of c.in-Ok.elements) c.put.result c.in-Ok.ensures.refused c.in-Ok.ensures.part c.put.ensures.cause

pub returns-in-Err-clause-refused : goal.returns-in-Err-clause-refused
returns-in-Err-clause-refused g c =
    let source = c.args.self.now.source.now in
    let count = g.D.BytesPartialDecoderTraits.refused_calls in
    let shard = shard_of g.I.ArrayToBytesCodecTraits.meaning g.X.ArrayToBytesCodecTraits.meaning c.args.self.now in
    let reads : Payload → Type 0 = λ payload. IsTrue (g.D.BytesPartialDecoderTraits.is_honest source) → GivesPart shard (g.D.BytesPartialDecoderTraits.contents source) (asked_of c.args.indexer) payload in
    unread_refused ArrayBytes (Unit {0}) reads (g.T.ArrayBytesDecodeIntoTarget.misfits c.args.target.now) (count source) (count c.partial_decode.new.self.source.now) c.in-Err.error c.in-Err.ensures.refused
