use Rattle.std.proofs.Common.{◌≡◌, ap, sym, ◌∙◌, subst, true}
use Rattle.zarr_codecs_types.specs.Views.{type_of}
use Rattle.zarr_codecs_arrays.specs.Views.{elements_of}
use Rattle.zarr_codecs_meaning.specs.Chains.{sharded}
use Rattle.zarr_codecs_meaning.specs.Fits.{fits}
use Rattle.zarr_sharding_index.specs.Views.{location_of}
use Rattle.zarr_sharding_codec.specs.Fitting.{Suits}
use Rattle.zarr_sharding_codec.proofs.EncodedShard.{index_part}
use Rattle.zarr_sharding_codec.proofs.StoredLoop.{rank_fits}
use Rattle.zarr_sharding_codec.proofs.array_to_bytes.ShardingCodecArrayToBytesCodecTraits.compact_in_order.Goals as goal

pub compact_shard-requires-clause-rank : goal.compact_shard-requires-clause-rank
compact_shard-requires-clause-rank g c =
    let self = c.args.self.now in
    let shape = c.args.shape.now in
    let inner = g.I.ArrayToBytesCodecTraits.meaning self.inner_codecs in
    let index = g.X.ArrayToBytesCodecTraits.meaning self.index_codecs in
    let location = location_of self.index_location in
    let suits = subst (Suits (sharded self.subchunk_shape inner index location) (type_of c.data_type.result.now) shape) c.in-Some.is c.in_ok-size.ensures in
    let elements = elements_of c.args.elements.now in
    let fit : fits (sharded self.subchunk_shape inner index location) elements.type shape ≡ true = ap (λ t. fits (sharded self.subchunk_shape inner index location) t shape) (sym c.data_type.ensures) ∙ suits.0 in
    rank_fits self.subchunk_shape inner index location elements shape fit

pub compact_shard-requires-clause-fit : goal.compact_shard-requires-clause-fit
compact_shard-requires-clause-fit g c =
    let self = c.args.self.now in
    let shape = c.args.shape.now in
    let inner = g.I.ArrayToBytesCodecTraits.meaning self.inner_codecs in
    let index = g.X.ArrayToBytesCodecTraits.meaning self.index_codecs in
    let location = location_of self.index_location in
    let suits = subst (Suits (sharded self.subchunk_shape inner index location) (type_of c.data_type.result.now) shape) c.in-Some.is c.in_ok-size.ensures in
    let elements = elements_of c.args.elements.now in
    let fit : fits (sharded self.subchunk_shape inner index location) elements.type shape ≡ true = ap (λ t. fits (sharded self.subchunk_shape inner index location) t shape) (sym c.data_type.ensures) ∙ suits.0 in
    index_part self.subchunk_shape inner index location elements shape fit

pub compact_shard-requires-clause-function : goal.compact_shard-requires-clause-function
compact_shard-requires-clause-function g c = g.met.X.IndexCodec.alike c.args.self.now.index_codecs
