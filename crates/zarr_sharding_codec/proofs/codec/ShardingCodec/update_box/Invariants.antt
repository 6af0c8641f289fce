use Rattle.std.proofs.Common.{◌≡◌, List, [], length, unwrap_or, true, IsTrue}
use Rattle.std.specs.List.{list_all}
use Rattle.zarr_codecs_arrays.specs.Outcomes.{IsValid}
use Rattle.zarr_codecs_arrays.specs.Views.{elements_of, payload_of}
use Rattle.zarr_codecs_meaning.specs.Types.{Cell}
use Rattle.zarr_codecs_traits.specs.Indexers.{numbers_of}
use Rattle.zarr_grids_boxes.specs.Subsets.{region_of}
use Rattle.zarr_sharding_index.specs.Known.{end_of, pairs_in, known_location, known_length}
use Rattle.zarr_sharding_index.specs.SliceChanges.{changes_of, is_below}
use Rattle.zarr_sharding_codec.specs.PartWriting.{IsOf}
use Rattle.zarr_sharding_codec.specs.Updating.{total_of}
use Rattle.zarr_sharding_codec.proofs.BoxRead.{GivenBefore}
use Rattle.zarr_sharding_codec.proofs.BoxWritten.{BoxUpdated, box_asked}
use Rattle.zarr_sharding_codec.proofs.codec.ShardingCodec.update_box.Given as goal

-- the source gives the same value as before, and the first subchunks were updated, for which no other slices were read
abbrev pub invariant-loop-j : goal.invariant-loop-j
invariant-loop-j g l = record {
  follows : g.D.BytesPartialDecoderTraits.follows l.initial.source l.source;
  refused : g.D.BytesPartialDecoderTraits.refused_calls l.source ≡ g.D.BytesPartialDecoderTraits.refused_calls l.initial.source;
  below : list_all (is_below (length (pairs_in l.shard.known.now))) l.changes.items ≡ true;
  updated : IsTrue (g.D.BytesPartialDecoderTraits.is_honest l.initial.source) → IsOf (known_location l.shard.known.now) (known_length l.shard.known.now) (g.D.BytesPartialDecoderTraits.contents l.initial.source) (pairs_in l.shard.known.now) (end_of l.shard.known.now)
      → (cells : List Cell) → IsValid (elements_of l.shard.elements.now).type (payload_of l.given.bytes.now) (length (numbers_of l.given.shape.now (region_of l.given.region.now))) cells
      → BoxUpdated (box_asked (g.I.ArrayToBytesCodecTraits.meaning l.self.inner_codecs) (elements_of l.shard.elements.now) l.given.shape.now l.self.subchunk_shape (unwrap_or (g.D.BytesPartialDecoderTraits.contents l.initial.source) []) (pairs_in l.shard.known.now) (region_of l.given.region.now))
      (g.I.ArrayToBytesCodecTraits.is_function l.self.inner_codecs) cells l.met (changes_of l.changes.items) l.j;
  given : IsTrue (g.D.BytesPartialDecoderTraits.is_honest l.initial.source)
      → GivenBefore (box_asked (g.I.ArrayToBytesCodecTraits.meaning l.self.inner_codecs) (elements_of l.shard.elements.now) l.given.shape.now l.self.subchunk_shape (unwrap_or (g.D.BytesPartialDecoderTraits.contents l.initial.source) []) (pairs_in l.shard.known.now) (region_of l.given.region.now)) (total_of l.shard)
      l.met (g.D.BytesPartialDecoderTraits.given_bytes l.initial.source) (g.D.BytesPartialDecoderTraits.given_bytes l.source) l.j;
}
