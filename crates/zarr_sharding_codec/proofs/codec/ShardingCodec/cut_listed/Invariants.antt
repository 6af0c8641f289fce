use Rattle.std.proofs.Common.{◌≡◌, ◌++◌, List, None, [], length, unwrap_or, IsTrue}
use Rattle.std.specs.List.Sorted.{IsNonDecreasingBy}
use Rattle.zarr_codecs_arrays.specs.Views.{elements_of}
use Rattle.zarr_codecs_meaning.specs.Chains.{sharded}
use Rattle.zarr_codecs_traits.specs.Arrays.{coded}
use Rattle.zarr_codecs_traits.specs.Indexers.{listed}
use Rattle.zarr_sharding_index.specs.Present.{all_pairs}
use Rattle.zarr_sharding_index.specs.Views.{location_of}
use Rattle.zarr_sharding_places.specs.declared.locating.AskedPlace.{AskedPlace}
use Rattle.zarr_sharding_codec.specs.Pieces.{asked_part}
use Rattle.zarr_sharding_codec.specs.Reading.{IsTotalOf}
use Rattle.zarr_sharding_codec.proofs.GivenSoFar.{GivenSoFar}
use Rattle.zarr_sharding_codec.proofs.PartFound.{shard_asked}
use Rattle.zarr_sharding_codec.proofs.PlacesCut.{ListDone}
use Rattle.zarr_sharding_codec.proofs.SlicesRead.{ReadSlices}
use Rattle.zarr_sharding_codec.proofs.codec.ShardingCodec.cut_listed.Given as goal

-- the source gives the same value as before, and the slices were read that the places before those that are left lie in, and no others; these are in the order of their subchunks
abbrev pub invariant-loop-rest : goal.invariant-loop-rest
invariant-loop-rest g l =
    let chain = sharded l.self.subchunk_shape (g.I.ArrayToBytesCodecTraits.meaning l.self.inner_codecs) (g.X.ArrayToBytesCodecTraits.meaning l.self.index_codecs) (location_of l.self.index_location) in
    record {
      follows : g.D.BytesPartialDecoderTraits.follows l.initial.source l.source;
      refused : g.D.BytesPartialDecoderTraits.refused_calls l.source ≡ g.D.BytesPartialDecoderTraits.refused_calls l.initial.source;
      goes_on : l.pieces.stopped ≡ None;
      left : (done : List AskedPlace) × (done ++ l.rest ≡ l.initial.rest)
          × (IsTrue (g.D.BytesPartialDecoderTraits.is_honest l.initial.source) → IsTotalOf (g.D.BytesPartialDecoderTraits.contents l.initial.source) (all_pairs l.shard.pairs.now) l.shard.total
          → let part = asked_part (coded chain (elements_of l.shard.elements.now) l.asked.shape.now) (listed l.asked.numbers.now) (unwrap_or (g.D.BytesPartialDecoderTraits.contents l.initial.source) []) (all_pairs l.shard.pairs.now) in
          ReadSlices part (ListDone done) l.pieces);
      sorted : IsNonDecreasingBy (λ (place : AskedPlace). place.subchunk) l.rest;
      given : IsTrue (g.D.BytesPartialDecoderTraits.is_honest l.initial.source)
          → let part = asked_part (coded chain (elements_of l.shard.elements.now) l.asked.shape.now) (listed l.asked.numbers.now) [] (all_pairs l.shard.pairs.now) in
          GivenSoFar (shard_asked part) l.shard.total (g.D.BytesPartialDecoderTraits.given_bytes l.initial.source) (g.D.BytesPartialDecoderTraits.given_bytes l.source) l.rest;
    }

abbrev pub decreases-loop-rest : goal.decreases-loop-rest
decreases-loop-rest g l = length l.rest
