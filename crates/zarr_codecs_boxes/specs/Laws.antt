-- Laws of boxes of cells through an array codec.
use Rattle.std.specs.Prelude.{◌≡◌, ℕ, List, length, Some, true}
use Rattle.zarr_grids_boxes.specs.Boxes.{Region, product}
use Rattle.zarr_codecs_meaning.specs.Types.{Cell}
use Rattle.zarr_codecs_meaning.specs.Chains.{ArrayCodec}
use Rattle.zarr_codecs_meaning.specs.Places.{gather, encoded_shape, source_places, undone_places}
use Rattle.zarr_codecs_meaning.specs.Fits.{array_codec_fits}
use Rattle.zarr_sharding_changes.specs.Regions.{whole, overlaid}
use Rattle.zarr_codecs_traits.specs.Indexers.{in_box, numbers_asked}
use Rattle.zarr_codecs_boxes.specs.Regions.{encoded_region}
use Rattle.zarr_codecs_boxes.specs.Updates.{IsBoxIn, Update, IsUpdate, updated, encoded_update}

-- new cells that are put at the places of a box, one after another, are the box put over the array
abbrev pub UpdateOverlaid : Type 0
UpdateOverlaid = (fill : Cell) (shape : List ℕ) (update : Update) (cells : List Cell) → IsUpdate shape update → length cells ≡ product shape → updated shape update cells ≡ overlaid fill (whole shape) update.region update.cells cells

-- what an array codec makes of an array with a box put over it is what it makes of the array, with the box that the box becomes put over that
abbrev pub UpdateEncoded : Type 0
UpdateEncoded = (fill : Cell) (codec : ArrayCodec) (shape : List ℕ) (update moved : Update) (cells : List Cell)
    → array_codec_fits codec shape ≡ true → IsUpdate shape update → length cells ≡ product shape → encoded_update fill codec shape update ≡ Some moved
    → IsUpdate (encoded_shape codec shape) moved
    × (gather fill (updated shape update cells) (source_places codec shape) ≡ updated (encoded_shape codec shape) moved (gather fill cells (source_places codec shape)))

-- the cells of the encoded array in the box that a box becomes are what the codec makes of the cells in the box
abbrev pub RegionRead : Type 0
RegionRead = (fill : Cell) (codec : ArrayCodec) (shape : List ℕ) (region moved : Region) (cells : List Cell)
    → array_codec_fits codec shape ≡ true → IsBoxIn shape region → length cells ≡ product shape → encoded_region codec shape region ≡ Some moved
    → gather fill (gather fill cells (source_places codec shape)) (numbers_asked (encoded_shape codec shape) (in_box moved))
    ≡ gather fill (gather fill cells (numbers_asked shape (in_box region))) (source_places codec region.shape)

-- undone as those of an array of the box's shape, they are the cells in the box
abbrev pub RegionUndone : Type 0
RegionUndone = (fill : Cell) (codec : ArrayCodec) (shape : List ℕ) (region moved : Region) (cells : List Cell)
    → array_codec_fits codec shape ≡ true → IsBoxIn shape region → length cells ≡ product shape → encoded_region codec shape region ≡ Some moved
    → gather fill (gather fill (gather fill cells (source_places codec shape)) (numbers_asked (encoded_shape codec shape) (in_box moved))) (undone_places codec region.shape)
    ≡ gather fill cells (numbers_asked shape (in_box region))
