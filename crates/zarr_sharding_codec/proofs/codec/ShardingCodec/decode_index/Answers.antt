use Rattle.zarr_codecs_meaning.specs.Chains.{sharded}
use Rattle.zarr_codecs_meaning.specs.Types.{zero_filled}
use Rattle.zarr_codecs_types.specs.Views.{type_of}
use Rattle.zarr_sharding_index.specs.Views.{location_of}
use Rattle.zarr_sharding_codec.proofs.DecodedShard.{suits_fit}
use Rattle.zarr_sharding_codec.proofs.EncodedShard.{index_part}
use Rattle.zarr_sharding_codec.proofs.StoredLoop.{rank_fits}
use Rattle.zarr_sharding_codec.proofs.codec.ShardingCodec.decode_index.Goals as goal

pub index_in-requires-clause-rank : goal.index_in-requires-clause-rank
index_in-requires-clause-rank g c =
    let self = c.args.self.now in
    rank_fits self.subchunk_shape (g.I.ArrayToBytesCodecTraits.meaning self.inner_codecs) (g.X.ArrayToBytesCodecTraits.meaning self.index_codecs) (location_of self.index_location) (zero_filled (type_of c.args.data_type.now)) c.args.shape.now (suits_fit (sharded self.subchunk_shape (g.I.ArrayToBytesCodecTraits.meaning self.inner_codecs) (g.X.ArrayToBytesCodecTraits.meaning self.index_codecs) (location_of self.index_location)) (type_of c.args.data_type.now) c.args.shape.now c.in_ok-size.field-0 c.in-Some.size c.in-Some.is c.in_ok-size.ensures)

pub index_in-requires-clause-fit : goal.index_in-requires-clause-fit
index_in-requires-clause-fit g c =
    let self = c.args.self.now in
    index_part self.subchunk_shape (g.I.ArrayToBytesCodecTraits.meaning self.inner_codecs) (g.X.ArrayToBytesCodecTraits.meaning self.index_codecs) (location_of self.index_location) (zero_filled (type_of c.args.data_type.now)) c.args.shape.now (suits_fit (sharded self.subchunk_shape (g.I.ArrayToBytesCodecTraits.meaning self.inner_codecs) (g.X.ArrayToBytesCodecTraits.meaning self.index_codecs) (location_of self.index_location)) (type_of c.args.data_type.now) c.args.shape.now c.in_ok-size.field-0 c.in-Some.size c.in-Some.is c.in_ok-size.ensures)
