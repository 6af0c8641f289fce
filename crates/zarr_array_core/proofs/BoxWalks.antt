-- What an array knows of a write of a box.
use Rattle.std.proofs.Common.{◌≡◌, length, true}
use Rattle.std.specs.List.{list_all}
use Rattle.zarr_grids_boxes.specs.Boxes.{Region}
use Rattle.zarr_grids_cover.specs.Intersecting.{AreIntersecting}
use Rattle.zarr_grids_overlay.specs.Overlays.{extent_of}
use Rattle.zarr_codecs_meaning.specs.Laws.{IsLawfulChain}
use Rattle.zarr_codecs_meaning.specs.Types.{is_value}
use Rattle.zarr_codecs_traits.specs.declared.array_to_bytes.ArrayToBytesCodecTraits as codecs
use Rattle.zarr_array_core.specs.BoxWrites.{write_of}
use Rattle.zarr_array_core.specs.Views.{array_cells, document_of, path_of}
use Rattle.zarr_array_core.specs.declared.array_core.ArrayCore.{ArrayCore}
use Rattle.zarr_array_core.specs.declared.chunk_value.BoxWrite.{BoxWrite}
use Rattle.zarr_array_core.proofs.ChunkBoxes.{key_apart}
use Rattle.zarr_array_core.proofs.ChunksWritten.{IsWalk}

pub walk_of : {C R : Type 0} (c : codecs.Ghosts C) (lawful : (codec : C) → IsLawfulChain (c.meaning codec)) (array : ArrayCore C) (write : BoxWrite R) (chunks : Region) → length write.region.start.now ≡ length write.region.shape.now → length chunks.start ≡ length chunks.shape
    → length write.region.start.now ≡ length (document_of c.meaning array).grid → AreIntersecting (document_of c.meaning array).grid (extent_of write.region) chunks → list_all (is_value (document_of c.meaning array).elements.type) (array_cells array write.bytes.now) ≡ true
    → IsWalk (write_of c array write) chunks
walk_of c lawful array write chunks region_rank chunks_rank rank meets values = record {
  good = record { lawful = lawful array.codecs; fill = array.elements.fills };
  apart = record { keys = λ c d box other below over ne. key_apart (path_of array) array.grid array.keys c d box other below over ne };
  values = values;
  region_rank = region_rank;
  grid_rank = rank;
  chunks_rank = chunks_rank;
  intersecting = meets;
}
