-- New cells for a box of an array, and what an array codec makes of them.
use Rattle.std.specs.Prelude.{◌≡◌, ℕ, List, length, Option, option_map, true}
use Rattle.zarr_grids_boxes.specs.Boxes.{Region, product}
use Rattle.zarr_codecs_meaning.specs.Types.{Cell}
use Rattle.zarr_codecs_meaning.specs.Chains.{ArrayCodec}
use Rattle.zarr_codecs_meaning.specs.Places.{gather, source_places}
use Rattle.zarr_codecs_traits.specs.Indexers.{in_box, are_inside, numbers_asked, put}
use Rattle.zarr_codecs_boxes.specs.Regions.{encoded_region}

-- new cells for the places of a box, row-major
pub record Update : Type 0 where
  pub region : Region
  pub cells : List Cell

-- a box that lies in an array of this shape
pub record IsBoxIn (shape : List ℕ) (region : Region) : Type 0 where
  pub dimensions : length region.shape ≡ length region.start
  pub inside : are_inside shape (in_box region) ≡ true

-- the box lies in an array of this shape, and each of its places has a new cell
pub record IsUpdate (shape : List ℕ) (update : Update) : Type 0 where
  pub box : IsBoxIn shape update.region
  pub count : length update.cells ≡ product update.region.shape

-- the cells of an array after an update
abbrev pub updated : List ℕ → Update → List Cell → List Cell
updated shape update cells = put (numbers_asked shape (in_box update.region)) update.cells cells

-- the update that an encoded array is given: the box that the box becomes, and its cells as the codec makes them of an array of the box's shape
abbrev pub encoded_update : Cell → ArrayCodec → List ℕ → Update → Option Update
encoded_update fill codec shape update =
    option_map (λ region. record { region = region; cells = gather fill update.cells (source_places codec update.region.shape) }) (encoded_region codec shape update.region)
