use Rattle.std.proofs.Common.{◌≡◌, ℕ, List, Option, None, Result, Ok, Vec, Global, get_or, subst}
use Rattle.zarr_codecs_arrays.specs.Views.{elements_of}
use Rattle.zarr_codecs_arrays.specs.declared.error.CodecError.{CodecError}
use Rattle.zarr_codecs_meaning.specs.Encoding.{absent_pair}
use Rattle.zarr_sharding_index.specs.Known.{HasSliceAt, end_of, known_length, known_location, pairs_in}
use Rattle.zarr_sharding_codec.proofs.SubchunkRead.{subchunk_read, subchunk_unread}
use Rattle.zarr_sharding_codec.proofs.codec.ShardingCodec.read_subchunk.Goals as goal

pub returns-in-Ok-Some-clause-elements : goal.returns-in-Ok-Some-clause-elements
returns-in-Ok-Some-clause-elements g c = λ honest of.
    let inner = g.I.ArrayToBytesCodecTraits.meaning c.args.self.now.inner_codecs in
    let elements = elements_of c.args.shard.elements.now in
    let known = c.args.shard.known.now in
    let n = c.args.subchunk.number in
    let contents = g.D.BytesPartialDecoderTraits.contents c.args.source.now in
    let found = c.in-Ok-Some.ensures in
    subchunk_read inner elements c.args.subchunk.shape.now (known_location known) (known_length known) (end_of known) n contents (pairs_in known) c.in-Ok-Some.slice c.decode_in_order.result c.requires.fit c.requires.below
    (λ absent. subst (λ (o : Option (Vec ℕ Global)). ◌≡◌ {A = Result (Option (Vec ℕ Global)) CodecError} (Ok o) (Ok None)) c.in-Ok-Some.field-0-is (found.absent absent))
    (λ value is long. subst (λ (o : Option (Vec ℕ Global)). HasSliceAt value (get_or (pairs_in known) n absent_pair) (Ok o)) c.in-Ok-Some.field-0-is (found.slice honest value is long)) of c.decode_in_order.ensures

pub returns-in-Err-clause-elements : goal.returns-in-Err-clause-elements
returns-in-Err-clause-elements g c = λ honest of.
    let inner = g.I.ArrayToBytesCodecTraits.meaning c.args.self.now.inner_codecs in
    let elements = elements_of c.args.shard.elements.now in
    let known = c.args.shard.known.now in
    let contents = g.D.BytesPartialDecoderTraits.contents c.args.source.now in
    let lost = c.in-Err.ensures in
    subchunk_unread inner elements c.args.subchunk.shape.now (known_location known) (known_length known) (end_of known) c.args.subchunk.number contents (pairs_in known) c.in-Err.error c.requires.below
    lost.absent (lost.slice honest) of
