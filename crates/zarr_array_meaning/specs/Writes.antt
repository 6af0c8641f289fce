-- Writes of cells to an array.
use Rattle.std.specs.Prelude.{List, Bool, ◌&&◌}
use Rattle.zarr_grids_boxes.specs.Boxes.{Region}
use Rattle.zarr_codecs_meaning.specs.Types.{Cell}
use Rattle.zarr_codecs_options.specs.declared.codec_options.CodecOptions.{CodecOptions}
use Rattle.zarr_array_meaning.specs.Arrays.{Array}

-- the cells of a box that are written to an array, and how they are stored
pub record Write : Type 0 where
  pub array : Array
  pub region : Region
  pub cells : List Cell
  pub options : CodecOptions

-- cells that are written to a box of an array
abbrev pub write_to : Array → Region → List Cell → CodecOptions → Write
write_to array region cells options = record { array = array; region = region; cells = cells; options = options }

-- the options of a write over a store: a part of a chunk is encoded in part only where the store takes ranges of a value
abbrev pub allowed : Bool → CodecOptions → CodecOptions
allowed takes_ranges options = record options { experimental_partial_encoding = takes_ranges && options.experimental_partial_encoding }
