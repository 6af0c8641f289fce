-- Elements of one box put over those of another, and taken out of them.
use Rattle.std.specs.Prelude.{◌≡◌, ℕ, List, [], length, unwrap_or, true, false}
use Rattle.zarr_grids_boxes.specs.Boxes.{Region, product, is_in_box}
use Rattle.zarr_codecs_meaning.specs.Payloads.{Payload, cells_in}
use Rattle.zarr_codecs_meaning.specs.Types.{DataType, Cell}
use Rattle.zarr_codecs_arrays.specs.Outcomes.{IsCounted}
use Rattle.zarr_array_meaning.specs.Boxes.{cell_of_box}

-- the elements that a payload is, and none where it is none of the type's
abbrev pub cells_of : DataType → Payload → List Cell
cells_of type payload = unwrap_or (cells_in type payload) []

-- a payload is as many elements as a box has places
abbrev pub AreOfBox : DataType → Payload → Region → Type 0
AreOfBox type payload box = IsCounted type payload (product box.shape) (cells_of type payload)

-- a box lies in another one
abbrev pub IsWithin : Region → Region → Type 0
IsWithin box other = (place : List ℕ) → is_in_box box.start box.shape place ≡ true → is_in_box other.start other.shape place ≡ true

-- the cells of a box are those that another one has at its places
pub record AreTakenOut (other : Cell) (box from : Region) (given made : List Cell) : Type 0 where
  pub many : length made ≡ product box.shape
  pub same : (place : List ℕ) → is_in_box box.start box.shape place ≡ true → cell_of_box box made other place ≡ cell_of_box from given other place

-- cells, and the box whose places they stand at, row-major
pub record BoxCells : Type 0 where
  pub region : Region
  pub cells : List Cell

-- these cells at the places of a box
abbrev pub cells_at : Region → List Cell → BoxCells
cells_at region cells = record { region = region; cells = cells }

-- the cells of a box after those of another were put over them: the other's where it has the place, and else those before
pub record ArePutOver (other : Cell) (given before : BoxCells) (made : List Cell) : Type 0 where
  pub many : length made ≡ product before.region.shape
  pub put : (place : List ℕ) → is_in_box given.region.start given.region.shape place ≡ true → is_in_box before.region.start before.region.shape place ≡ true
      → cell_of_box before.region made other place ≡ cell_of_box given.region given.cells other place
  pub kept : (place : List ℕ) → is_in_box given.region.start given.region.shape place ≡ false → is_in_box before.region.start before.region.shape place ≡ true
      → cell_of_box before.region made other place ≡ cell_of_box before.region before.cells other place
