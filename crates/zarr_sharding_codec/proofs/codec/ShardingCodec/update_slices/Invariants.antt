use Rattle.std.proofs.Common.{◌≡◌, List, [], length, unwrap_or, true, IsTrue}
use Rattle.std.specs.List.{list_all}
use Rattle.std.specs.List.Sorted.{IsNonDecreasingBy}
use Rattle.zarr_codecs_arrays.specs.Outcomes.{IsValid}
use Rattle.zarr_codecs_arrays.specs.Views.{elements_of, payload_of}
use Rattle.zarr_codecs_meaning.specs.Types.{Cell}
use Rattle.zarr_sharding_index.specs.Known.{end_of, pairs_in, known_location, known_length}
use Rattle.zarr_sharding_index.specs.SliceChanges.{changes_of, is_below}
use Rattle.zarr_sharding_places.specs.declared.locating.AskedPlace.{AskedPlace}
use Rattle.zarr_sharding_codec.specs.PartWriting.{IsOf}
use Rattle.zarr_sharding_codec.specs.Updating.{total_of}
use Rattle.zarr_sharding_codec.proofs.GivenSoFar.{GivenSoFar, shard_asked}
use Rattle.zarr_sharding_codec.proofs.SoFarWritten.{IsCutAt, UpdatedSoFar}
use Rattle.zarr_sharding_codec.proofs.codec.ShardingCodec.update_slices.Given as goal

-- the source gives the same value as before, whole subchunks were cut off, and these were updated, for which no other slices were read
abbrev pub invariant-loop-rest : goal.invariant-loop-rest
invariant-loop-rest g l = record {
  follows : g.D.BytesPartialDecoderTraits.follows l.initial.source l.source;
  refused : g.D.BytesPartialDecoderTraits.refused_calls l.source ≡ g.D.BytesPartialDecoderTraits.refused_calls l.initial.source;
  cut : IsCutAt l.initial.rest l.rest;
  below : list_all (is_below (length (pairs_in l.shard.known.now))) l.changes.items ≡ true;
  updated : IsTrue (g.D.BytesPartialDecoderTraits.is_honest l.initial.source) → IsOf (known_location l.shard.known.now) (known_length l.shard.known.now) (g.D.BytesPartialDecoderTraits.contents l.initial.source) (pairs_in l.shard.known.now) (end_of l.shard.known.now)
      → (cells : List Cell) → IsValid (elements_of l.shard.elements.now).type (payload_of l.given.bytes.now) (length l.given.numbers.now) cells
      → UpdatedSoFar (record {
        inner = g.I.ArrayToBytesCodecTraits.meaning l.self.inner_codecs;
        elements = elements_of l.shard.elements.now;
        shape = l.given.shape.now;
        subchunk = l.self.subchunk_shape;
        value = unwrap_or (g.D.BytesPartialDecoderTraits.contents l.initial.source) [];
        pairs = pairs_in l.shard.known.now;
        numbers = l.given.numbers.now;
      }) (g.I.ArrayToBytesCodecTraits.is_function l.self.inner_codecs) cells l.initial.rest l.rest (changes_of l.changes.items);
  sorted : IsNonDecreasingBy (λ (place : AskedPlace). place.subchunk) l.rest;
  given : IsTrue (g.D.BytesPartialDecoderTraits.is_honest l.initial.source)
      → GivenSoFar (shard_asked (g.I.ArrayToBytesCodecTraits.meaning l.self.inner_codecs) (elements_of l.shard.elements.now) l.given.shape.now l.self.subchunk_shape (pairs_in l.shard.known.now) l.given.numbers.now) (total_of l.shard)
      (g.D.BytesPartialDecoderTraits.given_bytes l.initial.source) (g.D.BytesPartialDecoderTraits.given_bytes l.source) l.rest;
}

abbrev pub decreases-loop-rest : goal.decreases-loop-rest
decreases-loop-rest g l = length l.rest
