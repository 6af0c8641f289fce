use Rattle.std.proofs.Common.{List, ℕ, refl, subst, rules}
use Rattle.zarr_codecs_arrays.specs.Views.{elements_of}
use Rattle.zarr_codecs_meaning.specs.Places.{index_shape}
use Rattle.zarr_sharding_index.specs.HeldIndex.{IsIndexHeld}
use Rattle.zarr_sharding_index.specs.Views.{location_of, pairs_of}
use Rattle.zarr_sharding_codec.proofs.EncodedShard.{index_part}
use Rattle.zarr_sharding_codec.proofs.StoredLoop.{rank_fits}
use Rattle.zarr_sharding_codec.proofs.codec.ShardingCodec.cut_value.Goals as goal

pub index_in-requires-clause-rank : goal.index_in-requires-clause-rank
index_in-requires-clause-rank g c =
    let self = c.args.self.now in
    rank_fits self.subchunk_shape (g.I.ArrayToBytesCodecTraits.meaning self.inner_codecs) (g.X.ArrayToBytesCodecTraits.meaning self.index_codecs) (location_of self.index_location) (elements_of c.args.array.elements.now) c.args.array.shape.now c.requires.fit

pub index_in-requires-clause-fit : goal.index_in-requires-clause-fit
index_in-requires-clause-fit g c =
    let self = c.args.self.now in
    index_part self.subchunk_shape (g.I.ArrayToBytesCodecTraits.meaning self.inner_codecs) (g.X.ArrayToBytesCodecTraits.meaning self.index_codecs) (location_of self.index_location) (elements_of c.args.array.elements.now) c.args.array.shape.now c.requires.fit

pub returns-in_ok-shape-in-Ok : goal.returns-in_ok-shape-in-Ok
returns-in_ok-shape-in-Ok g c =
    let self = c.args.self.now in
    let index = g.X.ArrayToBytesCodecTraits.meaning self.index_codecs in
    let pairs = pairs_of c.in-Ok.index in
    record {
      fit = c.requires.fit;
      pairs = pairs;
      held = subst (λ (v : List ℕ). IsIndexHeld index (location_of self.index_location) (index_shape c.args.array.shape.now self.subchunk_shape) v pairs) c.as_slice.ensures.value c.in-Ok.ensures;
      sliced = c.in_ok-slices-in-Ok.ensures;
      data_is = refl;
      shape_is = search rules;
    }
