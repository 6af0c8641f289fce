use Rattle.std.proofs.Common.{◌≡◌, [], unwrap_or, IsTrue}
use Rattle.zarr_codecs_arrays.specs.Views.{elements_of}
use Rattle.zarr_codecs_traits.specs.Indexers.{numbers_of}
use Rattle.zarr_grids_boxes.specs.Subsets.{region_of}
use Rattle.zarr_sharding_index.specs.Present.{all_pairs}
use Rattle.zarr_sharding_codec.specs.Reading.{IsTotalOf}
use Rattle.zarr_sharding_codec.proofs.BoxRead.{BoxSoFar, GivenBefore}
use Rattle.zarr_sharding_codec.proofs.codec.ShardingCodec.read_cuts.Given as goal

-- the source gives the same value as before, and what lies in the first subchunks was read, of no other slices
abbrev pub invariant-loop-j : goal.invariant-loop-j
invariant-loop-j g l = record {
  follows : g.D.BytesPartialDecoderTraits.follows l.initial.source l.source;
  refused : g.D.BytesPartialDecoderTraits.refused_calls l.source ≡ g.D.BytesPartialDecoderTraits.refused_calls l.initial.source;
  read : IsTrue (g.D.BytesPartialDecoderTraits.is_honest l.initial.source) → IsTotalOf (g.D.BytesPartialDecoderTraits.contents l.initial.source) (all_pairs l.shard.pairs.now) l.shard.total
      → BoxSoFar (record {
        inner = g.I.ArrayToBytesCodecTraits.meaning l.self.inner_codecs;
        elements = elements_of l.shard.elements.now;
        shape = l.asked.shape.now;
        subchunk = l.self.subchunk_shape;
        value = unwrap_or (g.D.BytesPartialDecoderTraits.contents l.initial.source) [];
        pairs = all_pairs l.shard.pairs.now;
        numbers = numbers_of l.asked.shape.now (region_of l.asked.region.now);
      }) l.met l.all l.j;
  given : IsTrue (g.D.BytesPartialDecoderTraits.is_honest l.initial.source)
      → GivenBefore (record {
        inner = g.I.ArrayToBytesCodecTraits.meaning l.self.inner_codecs;
        elements = elements_of l.shard.elements.now;
        shape = l.asked.shape.now;
        subchunk = l.self.subchunk_shape;
        value = [];
        pairs = all_pairs l.shard.pairs.now;
        numbers = numbers_of l.asked.shape.now (region_of l.asked.region.now);
      }) l.shard.total l.met (g.D.BytesPartialDecoderTraits.given_bytes l.initial.source) (g.D.BytesPartialDecoderTraits.given_bytes l.source) l.j;
}
