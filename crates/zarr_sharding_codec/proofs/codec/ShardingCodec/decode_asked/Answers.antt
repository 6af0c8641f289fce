use Rattle.std.proofs.Common.{◌∙◌, sym}
use Rattle.zarr_codecs_arrays.specs.Views.{elements_of}
use Rattle.zarr_codecs_traits.specs.Arrays.{coded}
use Rattle.zarr_codecs_traits.specs.Indexers.{asked_of}
use Rattle.zarr_sharding_codec.specs.Pieces.{DecodesAsked}
use Rattle.zarr_sharding_codec.proofs.DecodedSlice.{tested_inside}
use Rattle.zarr_sharding_codec.proofs.MadePieces.{answered}
use Rattle.zarr_sharding_codec.proofs.codec.ShardingCodec.decode_asked.Goals as goal

pub count_asked-requires : goal.count_asked-requires
count_asked-requires g c = record { inside = tested_inside c.args.part.shape.now (asked_of c.args.indexer) c.test_asked.result c.test_asked.ensures (sym c.is_err.ensures.value ∙ c.if-is_err.false) }

pub returns-in-Some : goal.returns-in-Some
returns-in-Some g c =
    let inner = g.I.ArrayToBytesCodecTraits.meaning c.args.self.now.inner_codecs in
    let part = coded inner (elements_of c.args.part.elements.now) c.args.part.shape.now in
    answered (DecodesAsked part c.args.slice.items (asked_of c.args.indexer)) c.read_slice.result (c.read_slice.ensures.no_source 0) (λ fit asked. c.read_slice.ensures.part)
