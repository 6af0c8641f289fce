use Rattle.std.proofs.Common.{◌≡◌, None, [], unwrap_or, IsTrue}
use Rattle.zarr_codecs_arrays.specs.Views.{elements_of}
use Rattle.zarr_codecs_meaning.specs.Chains.{sharded}
use Rattle.zarr_codecs_traits.specs.Arrays.{coded}
use Rattle.zarr_codecs_traits.specs.Indexers.{in_box}
use Rattle.zarr_grids_boxes.specs.Subsets.{region_of}
use Rattle.zarr_sharding_index.specs.Present.{all_pairs}
use Rattle.zarr_sharding_index.specs.Views.{location_of}
use Rattle.zarr_sharding_codec.specs.Pieces.{asked_part}
use Rattle.zarr_sharding_codec.specs.Reading.{IsTotalOf}
use Rattle.zarr_sharding_codec.proofs.BoxRead.{GivenBefore}
use Rattle.zarr_sharding_codec.proofs.PartFound.{shard_asked}
use Rattle.zarr_sharding_codec.proofs.PlacesCut.{BoxDone}
use Rattle.zarr_sharding_codec.proofs.SlicesRead.{ReadSlices}
use Rattle.zarr_sharding_codec.proofs.codec.ShardingCodec.cut_box.Given as goal

-- the source gives the same value as before, and the slices of the first subchunks were read, and no others
abbrev pub invariant-loop-j : goal.invariant-loop-j
invariant-loop-j g l =
    let chain = sharded l.self.subchunk_shape (g.I.ArrayToBytesCodecTraits.meaning l.self.inner_codecs) (g.X.ArrayToBytesCodecTraits.meaning l.self.index_codecs) (location_of l.self.index_location) in
    record {
      follows : g.D.BytesPartialDecoderTraits.follows l.initial.source l.source;
      refused : g.D.BytesPartialDecoderTraits.refused_calls l.source ≡ g.D.BytesPartialDecoderTraits.refused_calls l.initial.source;
      goes_on : l.pieces.stopped ≡ None;
      read : IsTrue (g.D.BytesPartialDecoderTraits.is_honest l.initial.source) → IsTotalOf (g.D.BytesPartialDecoderTraits.contents l.initial.source) (all_pairs l.shard.pairs.now) l.shard.total
          → let part = asked_part (coded chain (elements_of l.shard.elements.now) l.asked.shape.now) (in_box (region_of l.asked.region.now)) (unwrap_or (g.D.BytesPartialDecoderTraits.contents l.initial.source) []) (all_pairs l.shard.pairs.now) in
          ReadSlices part (BoxDone part l.met l.j) l.pieces;
      given : IsTrue (g.D.BytesPartialDecoderTraits.is_honest l.initial.source)
          → let part = asked_part (coded chain (elements_of l.shard.elements.now) l.asked.shape.now) (in_box (region_of l.asked.region.now)) [] (all_pairs l.shard.pairs.now) in
          GivenBefore (shard_asked part) l.shard.total l.met (g.D.BytesPartialDecoderTraits.given_bytes l.initial.source) (g.D.BytesPartialDecoderTraits.given_bytes l.source) l.j;
    }
