use Rattle.std.proofs.Common.{◌≡◌, [], length, unwrap_or, IsTrue}
use Rattle.std.specs.List.Sorted.{IsNonDecreasingBy}
use Rattle.zarr_codecs_arrays.specs.Views.{elements_of}
use Rattle.zarr_sharding_index.specs.Present.{all_pairs}
use Rattle.zarr_sharding_places.specs.declared.locating.AskedPlace.{AskedPlace}
use Rattle.zarr_sharding_codec.specs.Reading.{IsTotalOf}
use Rattle.zarr_sharding_codec.proofs.GivenSoFar.{GivenSoFar}
use Rattle.zarr_sharding_codec.proofs.SoFarRead.{IsLeft, ReadSoFar}
use Rattle.zarr_sharding_codec.proofs.codec.ShardingCodec.read_numbers.Given as goal

-- the source gives the same value as before, the places that are left are some of all, in the order of their subchunks, and all others were read, of no other slices
abbrev pub invariant-loop-rest : goal.invariant-loop-rest
invariant-loop-rest g l = record {
  follows : g.D.BytesPartialDecoderTraits.follows l.initial.source l.source;
  refused : g.D.BytesPartialDecoderTraits.refused_calls l.source ≡ g.D.BytesPartialDecoderTraits.refused_calls l.initial.source;
  left : IsLeft l.initial.rest l.rest;
  read : IsTrue (g.D.BytesPartialDecoderTraits.is_honest l.initial.source) → IsTotalOf (g.D.BytesPartialDecoderTraits.contents l.initial.source) (all_pairs l.shard.pairs.now) l.shard.total
      → ReadSoFar (record {
        inner = g.I.ArrayToBytesCodecTraits.meaning l.self.inner_codecs;
        elements = elements_of l.shard.elements.now;
        shape = l.asked.shape.now;
        subchunk = l.self.subchunk_shape;
        value = unwrap_or (g.D.BytesPartialDecoderTraits.contents l.initial.source) [];
        pairs = all_pairs l.shard.pairs.now;
        numbers = l.asked.numbers.now;
      }) l.all l.initial.rest l.rest;
  sorted : IsNonDecreasingBy (λ (place : AskedPlace). place.subchunk) l.rest;
  given : IsTrue (g.D.BytesPartialDecoderTraits.is_honest l.initial.source)
      → GivenSoFar (record {
        inner = g.I.ArrayToBytesCodecTraits.meaning l.self.inner_codecs;
        elements = elements_of l.shard.elements.now;
        shape = l.asked.shape.now;
        subchunk = l.self.subchunk_shape;
        value = [];
        pairs = all_pairs l.shard.pairs.now;
        numbers = l.asked.numbers.now;
      }) l.shard.total (g.D.BytesPartialDecoderTraits.given_bytes l.initial.source) (g.D.BytesPartialDecoderTraits.given_bytes l.source) l.rest;
}

abbrev pub decreases-loop-rest : goal.decreases-loop-rest
decreases-loop-rest g l = length l.rest
