use Rattle.std.proofs.Common.{List, subst, true}
use Rattle.std.specs.Prelude.{OnOk}
use Rattle.zarr_codecs_meaning.specs.Types.{Cell}
use Rattle.zarr_codecs_arrays.specs.Views.{elements_of, payload_of}
use Rattle.zarr_codecs_array_to_array.specs.declared.codec.ArrayToArrayCodec.{ArrayToArrayCodec}
use Rattle.zarr_codecs_traits.specs.Indexers.{asked_of}
use Rattle.zarr_codecs_traits.specs.Arrays.{coded, coded_part, update_of, update_part}
use Rattle.zarr_codecs_traits.specs.PartWriting.{IsEncodedInto, NotEncodedInto}
use Rattle.zarr_codecs_traits.specs.ShardWrites.{GivesWriting, LeavesParts}
use Rattle.zarr_codecs_around.specs.Views.{codecs_of, with_array_codecs}
use Rattle.zarr_codecs_chains.specs.Views.{bytes_meaning, bytes_plain}
use Rattle.zarr_codecs_around.proofs.Telling.{encodes_before}
use Rattle.zarr_codecs_chains.proofs.chain.CodecChainArrayToBytesCodecTraits.partial_encode_in_order.Goals as goal

pub returns-clause-ok : goal.returns-clause-ok
returns-clause-ok g c = λ honest.
    let E = g.E.BytesPartialDecoderTraits in
    let rest = bytes_meaning g.B.BytesToBytesCodecTraits.meaning c.args.self.now.others in
    let exact = true in
    subst
    (λ (codecs : List ArrayToArrayCodec). OnOk c.encode_part_after.result
    ((cells : List Cell) × IsEncodedInto (coded (with_array_codecs (codecs_of codecs) rest) (elements_of c.args.part.elements.now) c.args.part.shape.now) exact (update_of (asked_of c.args.part.indexer) (payload_of c.args.bytes) (E.contents c.args.source.now)) cells (E.contents c.encode_part_after.new.source)))
    c.as_slice-array_to_array.ensures.value (c.encode_part_after.ensures.ok honest)

pub returns-clause-parts : goal.returns-clause-parts
returns-clause-parts g c = λ honest.
    let E = g.E.BytesPartialDecoderTraits in
    let meaning = g.B.BytesToBytesCodecTraits.meaning in
    let rest = bytes_meaning meaning c.args.self.now.others in
    let before = encodes_before (codecs_of c.as_slice-array_to_array.result.now) rest (bytes_plain meaning c.args.self.now.others) in
    subst
    (λ (codecs : List ArrayToArrayCodec). OnOk c.encode_part_after.result
    (LeavesParts (coded_part (with_array_codecs (codecs_of codecs) rest) c.args.part) (update_part c.args.part c.args.bytes (E.contents c.args.source.now)) (E.contents c.encode_part_after.new.source)))
    c.as_slice-array_to_array.ensures.value (c.encode_part_after.ensures.writes honest before).parts

pub returns-clause-cause : goal.returns-clause-cause
returns-clause-cause g c = λ honest.
    let E = g.E.BytesPartialDecoderTraits in
    let meaning = g.B.BytesToBytesCodecTraits.meaning in
    let rest = bytes_meaning meaning c.args.self.now.others in
    let before = encodes_before (codecs_of c.as_slice-array_to_array.result.now) rest (bytes_plain meaning c.args.self.now.others) in
    subst (λ (codecs : List ArrayToArrayCodec). NotEncodedInto (coded_part (with_array_codecs (codecs_of codecs) rest) c.args.part) (update_part c.args.part c.args.bytes (E.contents c.args.source.now)) c.encode_part_after.result)
    c.as_slice-array_to_array.ensures.value (c.encode_part_after.ensures.writes honest before).cause

pub returns-clause-given : goal.returns-clause-given
returns-clause-given g c = λ honest.
    let E = g.E.BytesPartialDecoderTraits in
    let meaning = g.B.BytesToBytesCodecTraits.meaning in
    let rest = bytes_meaning meaning c.args.self.now.others in
    let before = encodes_before (codecs_of c.as_slice-array_to_array.result.now) rest (bytes_plain meaning c.args.self.now.others) in
    subst
    (λ (codecs : List ArrayToArrayCodec). GivesWriting (coded_part (with_array_codecs (codecs_of codecs) rest) c.args.part) (update_part c.args.part c.args.bytes (E.contents c.args.source.now)) (g.E.BytesPartialEncoderTraits.writes_ranges c.args.source.now) (E.given_bytes c.args.source.now) (E.given_bytes c.encode_part_after.new.source))
    c.as_slice-array_to_array.ensures.value ((c.encode_part_after.ensures.writes honest before).given)
