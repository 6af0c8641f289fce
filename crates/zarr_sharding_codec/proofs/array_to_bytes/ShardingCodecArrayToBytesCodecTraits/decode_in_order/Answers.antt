use Rattle.std.proofs.Common.{subst}
use Rattle.zarr_codecs_arrays.specs.Views.{elements_of}
use Rattle.zarr_codecs_meaning.specs.Chains.{sharded}
use Rattle.zarr_codecs_meaning.specs.Places.{index_shape}
use Rattle.zarr_sharding_index.specs.HeldIndex.{IsIndexHeld}
use Rattle.zarr_sharding_index.specs.Views.{location_of, pairs_of}
use Rattle.zarr_sharding_codec.specs.Fitting.{Suits}
use Rattle.zarr_sharding_codec.specs.Reading.{DecodesPieces, subchunks_of}
use Rattle.zarr_sharding_codec.proofs.DecodedShard.{pair_count, shard_read, suits_fit}
use Rattle.zarr_sharding_codec.proofs.EncodedShard.{index_part}
use Rattle.zarr_sharding_codec.proofs.StoredLoop.{rank_fits}
use Rattle.zarr_sharding_codec.proofs.array_to_bytes.ShardingCodecArrayToBytesCodecTraits.decode_in_order.Goals as goal

pub index_in-requires-clause-rank : goal.index_in-requires-clause-rank
index_in-requires-clause-rank g c =
    let self = c.args.self.now in
    rank_fits self.subchunk_shape (g.I.ArrayToBytesCodecTraits.meaning self.inner_codecs) (g.X.ArrayToBytesCodecTraits.meaning self.index_codecs) (location_of self.index_location) (elements_of c.args.elements.now) c.args.shape.now (suits_fit (sharded self.subchunk_shape (g.I.ArrayToBytesCodecTraits.meaning self.inner_codecs) (g.X.ArrayToBytesCodecTraits.meaning self.index_codecs) (location_of self.index_location)) (elements_of c.args.elements.now).type c.args.shape.now c.in_ok-size.field-0 c.in-Some.size c.in-Some.is (subst (λ t. Suits (sharded self.subchunk_shape (g.I.ArrayToBytesCodecTraits.meaning self.inner_codecs) (g.X.ArrayToBytesCodecTraits.meaning self.index_codecs) (location_of self.index_location)) t c.args.shape.now c.in_ok-size.field-0) c.data_type.ensures c.in_ok-size.ensures))

pub index_in-requires-clause-fit : goal.index_in-requires-clause-fit
index_in-requires-clause-fit g c =
    let self = c.args.self.now in
    index_part self.subchunk_shape (g.I.ArrayToBytesCodecTraits.meaning self.inner_codecs) (g.X.ArrayToBytesCodecTraits.meaning self.index_codecs) (location_of self.index_location) (elements_of c.args.elements.now) c.args.shape.now (suits_fit (sharded self.subchunk_shape (g.I.ArrayToBytesCodecTraits.meaning self.inner_codecs) (g.X.ArrayToBytesCodecTraits.meaning self.index_codecs) (location_of self.index_location)) (elements_of c.args.elements.now).type c.args.shape.now c.in_ok-size.field-0 c.in-Some.size c.in-Some.is (subst (λ t. Suits (sharded self.subchunk_shape (g.I.ArrayToBytesCodecTraits.meaning self.inner_codecs) (g.X.ArrayToBytesCodecTraits.meaning self.index_codecs) (location_of self.index_location)) t c.args.shape.now c.in_ok-size.field-0) c.data_type.ensures c.in_ok-size.ensures))

pub decode_pieces-requires-clause-many : goal.decode_pieces-requires-clause-many
decode_pieces-requires-clause-many g c =
    let self = c.args.self.now in
    pair_count (g.X.ArrayToBytesCodecTraits.meaning self.index_codecs) (location_of self.index_location) c.args.shape.now self.subchunk_shape c.as_slice-value.result.now (pairs_of c.in-Ok.index) c.in-Ok.ensures

pub returns-in-Ok : goal.returns-in-Ok
returns-in-Ok g c =
    let self = c.args.self.now in
    let subchunk = self.subchunk_shape in
    let inner = g.I.ArrayToBytesCodecTraits.meaning self.inner_codecs in
    let index = g.X.ArrayToBytesCodecTraits.meaning self.index_codecs in
    let location = location_of self.index_location in
    let elements = elements_of c.args.elements.now in
    let shape = c.args.shape.now in
    let same = c.as_slice-value.ensures.value in
    let pairs = pairs_of c.in-Ok.index in
    let held = subst (λ v. IsIndexHeld index location (index_shape shape subchunk) v pairs) same c.in-Ok.ensures in
    let found = subst (λ v. DecodesPieces (subchunks_of inner elements shape subchunk) v pairs c.decode_pieces.result) same c.decode_pieces.ensures in
    shard_read subchunk inner index location elements shape c.args.value.items pairs c.decode_pieces.result (suits_fit (sharded self.subchunk_shape (g.I.ArrayToBytesCodecTraits.meaning self.inner_codecs) (g.X.ArrayToBytesCodecTraits.meaning self.index_codecs) (location_of self.index_location)) (elements_of c.args.elements.now).type c.args.shape.now c.in_ok-size.field-0 c.in-Some.size c.in-Some.is (subst (λ t. Suits (sharded self.subchunk_shape (g.I.ArrayToBytesCodecTraits.meaning self.inner_codecs) (g.X.ArrayToBytesCodecTraits.meaning self.index_codecs) (location_of self.index_location)) t c.args.shape.now c.in_ok-size.field-0) c.data_type.ensures c.in_ok-size.ensures)) held found
