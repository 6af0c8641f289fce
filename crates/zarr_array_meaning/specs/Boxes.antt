-- Boxes of cells read from a store, whatever is stored.
use Rattle.std.specs.Prelude.{◌≡◌, ℕ, ◌<◌, List, length, slice_index_or, Option, None, Bool, true, false, is_some, ◌&&◌, if◌then◌else◌}
use Rattle.std.specs.List.{list_any}
use Rattle.zarr_grids_boxes.specs.Boxes.{Region, product, is_in_box}
use Rattle.zarr_grids_chunks.specs.Grids.{Grid, IsInGrid, intersects, lies_in_chunk}
use Rattle.zarr_codecs_meaning.specs.Types.{Cell}
use Rattle.zarr_array_meaning.specs.Chunks.{number_in, stored_at, fits_box, part_at, ReadsCell, IsNthIntersecting}
use Rattle.zarr_array_meaning.specs.Documents.{Document}
use Rattle.zarr_array_meaning.specs.StoreMaps.{StoreMap}

-- the cell that a box's list of cells has at a place of the box
abbrev pub cell_of_box : Region → List Cell → Cell → List ℕ → Cell
cell_of_box region cells other place = slice_index_or cells (number_in region place) other

-- whether a place lies in one of these chunks
abbrev pub lies_in_any : Grid → List (List ℕ) → List ℕ → Bool
lies_in_any grid chunks place = list_any (lies_in_chunk grid place) chunks

-- the cells after those of a box at some places were replaced by new ones
abbrev pub replaced_in : Region → (List ℕ → Bool) → (List ℕ → Cell) → (List ℕ → Cell) → List ℕ → Cell
replaced_in region is_among new old place = if is_in_box region.start region.shape place && is_among place then new place else old place

-- a place of a box that lies in a chunk in the grid
pub record IsPlaceOf (document : Document) (region : Region) (chunk : List ℕ) (box : Region) (place : List ℕ) : Type 0 where
  pub below : IsInGrid document.grid chunk box
  pub of_region : is_in_box region.start region.shape place ≡ true
  pub of_chunk : is_in_box box.start box.shape place ≡ true

-- cells are those of a box as they are read: each is what its chunk's value is decoded to at its place, and the fill value where nothing is stored
pub record IsRead (path : List ℕ) (document : Document) (store : StoreMap) (region : Region) (cells : List Cell) : Type 0 where
  pub many : length cells ≡ product region.shape
  pub each : (chunk : List ℕ) (box : Region) (place : List ℕ) → IsPlaceOf document region chunk box place → ReadsCell document box (stored_at path document store chunk) place (cell_of_box region cells document.elements.fill place)
  pub fit : (chunk : List ℕ) (box : Region) → IsInGrid document.grid chunk box → intersects document.grid region chunk ≡ true → is_some (stored_at path document store chunk) ≡ true → fits_box document box ≡ true

-- the part of a chunk that lies in a box is read: the chunk fits the chain or has no value, and no place of both is damaged
pub record IsPartRead (document : Document) (region box : Region) (stored : Option (List ℕ)) : Type 0 where
  pub fit : is_some stored ≡ true → fits_box document box ≡ true
  pub whole : (place : List ℕ) → is_in_box region.start region.shape place ≡ true → is_in_box box.start box.shape place ≡ true → is_some (part_at document box stored place) ≡ true

-- of the chunks that a box intersects, taken row-major, each before the one at this number is read
abbrev pub AreReadBefore : List ℕ → Document → StoreMap → Region → ℕ → Type 0
AreReadBefore path document store region number = (n : ℕ) (chunk : List ℕ) (box : Region) → n < number → IsNthIntersecting document.grid region n chunk box
    → IsPartRead document region box (stored_at path document store chunk)

-- the first chunk that a box intersects and that isn't read fits the chain, and a place of both is damaged
pub record IsDamagedIn (path : List ℕ) (document : Document) (store : StoreMap) (region : Region) : Type 0 where
  pub chunk : List ℕ
  pub box : Region
  pub place : List ℕ
  pub is : IsPlaceOf document region chunk box place
  pub fit : fits_box document box ≡ true
  pub lost : part_at document box (stored_at path document store chunk) place ≡ None
  pub number : ℕ
  pub nth : IsNthIntersecting document.grid region number chunk box
  pub first : AreReadBefore path document store region number

-- the first chunk that a box intersects and that isn't read does not fit the chain, and has a value
pub record IsUnfitIn (path : List ℕ) (document : Document) (store : StoreMap) (region : Region) : Type 0 where
  pub chunk : List ℕ
  pub box : Region
  pub below : IsInGrid document.grid chunk box
  pub shares : intersects document.grid region chunk ≡ true
  pub stored : is_some (stored_at path document store chunk) ≡ true
  pub fit : fits_box document box ≡ false
  pub number : ℕ
  pub nth : IsNthIntersecting document.grid region number chunk box
  pub first : AreReadBefore path document store region number

-- a box is read, or a chunk of it is damaged first, or one doesn't fit first: never two of these
abbrev pub ReadsOneWay : Type 0
ReadsOneWay = (path : List ℕ) (document : Document) (store : StoreMap) (region : Region) (cells : List Cell)
    → (IsDamagedIn path document store region → IsUnfitIn path document store region → ⊥)
    × (IsRead path document store region cells → IsDamagedIn path document store region → ⊥) × (IsRead path document store region cells → IsUnfitIn path document store region → ⊥)
