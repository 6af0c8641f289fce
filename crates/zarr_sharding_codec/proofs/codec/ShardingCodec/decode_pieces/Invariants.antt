use Rattle.std.proofs.Common.{◌≡◌, List, length}
use Rattle.zarr_codecs_arrays.specs.Views.{elements_of}
use Rattle.zarr_codecs_meaning.specs.Places.{parts_of}
use Rattle.zarr_codecs_meaning.specs.Types.{Cell}
use Rattle.zarr_grids_boxes.specs.Boxes.{product}
use Rattle.zarr_sharding_index.specs.Views.{pairs_of}
use Rattle.zarr_sharding_places.specs.Boxed.{ShowsBoxes}
use Rattle.zarr_sharding_places.proofs.ReadPieces.{ShowsPieces}
use Rattle.zarr_sharding_codec.proofs.codec.ShardingCodec.decode_pieces.Given as goal

-- the cells so far: those of the first subchunks are decoded
abbrev pub invariant-loop-n : goal.invariant-loop-n
invariant-loop-n g l = record {
  shown : (cells : List Cell) × ShowsBoxes (elements_of l.array.elements.now) l.all cells × (length cells ≡ product l.array.shape.now)
      × ShowsPieces (g.I.ArrayToBytesCodecTraits.meaning l.self.inner_codecs) (elements_of l.array.elements.now) l.shard.value.now (parts_of l.array.shape.now l.self.subchunk_shape) (pairs_of l.shard.index.now) cells l.n;
}
