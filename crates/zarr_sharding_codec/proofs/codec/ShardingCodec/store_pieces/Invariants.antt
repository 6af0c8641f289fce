use Rattle.std.proofs.Common.{◌≡◌, List, take}
use Rattle.zarr_codecs_arrays.specs.Outcomes.{IsValid}
use Rattle.zarr_codecs_arrays.specs.Views.{elements_of, payload_of}
use Rattle.zarr_codecs_meaning.specs.Encoding.{base_of, pieces_of}
use Rattle.zarr_codecs_meaning.specs.Places.{parts_of}
use Rattle.zarr_codecs_meaning.specs.Types.{Cell}
use Rattle.zarr_grids_boxes.specs.Boxes.{product}
use Rattle.zarr_sharding_codec.specs.Slices.{AreLaidOut, piece_coding}
use Rattle.zarr_sharding_index.specs.Views.{location_of, pairs_of}
use Rattle.zarr_sharding_codec.proofs.codec.ShardingCodec.store_pieces.Given as goal

-- what is stored of the subchunks so far
abbrev pub invariant-loop-n : goal.invariant-loop-n
invariant-loop-n g l = record {
  laid : (cells : List Cell) → IsValid (elements_of l.array.elements.now).type (payload_of l.bytes) (product l.array.shape.now) cells
      → AreLaidOut (piece_coding (g.I.ArrayToBytesCodecTraits.meaning l.self.inner_codecs) (g.I.ArrayToBytesCodecTraits.is_function l.self.inner_codecs) (elements_of l.array.elements.now))
      (take l.n (pieces_of (elements_of l.array.elements.now).fill cells (parts_of l.array.shape.now l.self.subchunk_shape))) (base_of (location_of l.self.index_location) l.size) l.data.items (pairs_of l.index);
}
