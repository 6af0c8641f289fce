-- Elements that are written to an array.
use Rattle.std.specs.Prelude.{◌≡◌, length, true}
use Rattle.std.specs.List.{list_all}
use Rattle.zarr_grids_boxes.specs.Boxes.{product, share_place}
use Rattle.zarr_grids_boxes.specs.Subsets.{region_of}
use Rattle.zarr_grids_boxes.specs.declared.subset.ArraySubset.{ArraySubset}
use Rattle.zarr_grids_overlay.specs.Overlays.{extent_of}
use Rattle.zarr_codecs_meaning.specs.Types.{is_value, IsTooLarge}
use Rattle.zarr_codecs_arrays.specs.Views.{elements_of}
use Rattle.zarr_codecs_options.specs.declared.codec_options.CodecOptions.{CodecOptions}
use Rattle.zarr_codecs_traits.specs.declared.array_to_bytes.ArrayToBytesCodecTraits as codecs
use Rattle.zarr_array_meaning.specs.Writes.{Write, write_to}
use Rattle.zarr_array_core.specs.Arrays.{array_of}
use Rattle.zarr_array_core.specs.Views.{array_cells, AreSoMany}
use Rattle.zarr_array_core.specs.declared.array_core.ArrayCore.{ArrayCore}
use Rattle.zarr_array_core.specs.declared.chunk_value.BoxWrite.{BoxWrite}
use Rattle.zarr_array_core.specs.declared.region_chunks.RegionBytes.{RegionBytes}

-- the cells that elements written to a box of an array are
abbrev pub write_of : {C R : Type 0} → codecs.Ghosts C → ArrayCore C → BoxWrite R → Write
write_of c array write = write_to (array_of c array) (extent_of write.region) (array_cells array write.bytes.now) write.options.now

-- the cells that elements for a region of an array are, written with these options
abbrev pub region_write : {C : Type 0} → codecs.Ghosts C → ArrayCore C → RegionBytes → CodecOptions → Write
region_write c array target options = write_to (array_of c array) (region_of target.region.now) (array_cells array target.bytes.now) options

-- elements are written to a box that shares a place with a chunk: both have as many numbers, the chunk isn't too large, and there are as many values of the array as the box has places
pub record WritesTo {C R : Type 0} (array : ArrayCore C) (write : BoxWrite R) (own : ArraySubset) : Type 0 where
  pub small : ¬ IsTooLarge (elements_of array.elements).type (product own.shape.items)
  pub shares : share_place own.start.items own.shape.items write.region.start.now write.region.shape.now ≡ true
  pub rank : length write.region.start.now ≡ length own.start.items
  pub many : AreSoMany array write.bytes.now (product write.region.shape.now)
  pub values : list_all (is_value (elements_of array.elements).type) (array_cells array write.bytes.now) ≡ true
