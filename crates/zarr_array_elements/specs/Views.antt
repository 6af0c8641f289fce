-- What elements of a box show while others are put over them.
use Rattle.std.specs.Prelude.{◌≡◌, ◌<◌, ◌*◌, ℕ, List, length, get_or, Some, slice_index}
use Rattle.zarr_grids_boxes.specs.Boxes.{Region, product}
use Rattle.zarr_codecs_meaning.specs.Payloads.{fixed, fixed_cells}
use Rattle.zarr_codecs_meaning.specs.Places.{gather}
use Rattle.zarr_codecs_meaning.specs.Types.{Cell, Elements, byte_width}
use Rattle.zarr_codecs_arrays.specs.Outcomes.{IsCounted}
use Rattle.zarr_codecs_arrays.specs.Views.{payload_of}
use Rattle.zarr_sharding_places.specs.declared.placed.PlacedElements.{PlacedElements}
use Rattle.zarr_array_elements.specs.Boxes.{cells_of}
use Rattle.zarr_array_elements.specs.declared.box_elements.BoxElements.{BoxElements}
use Rattle.zarr_array_elements.specs.declared.box_elements.BoxElements.TheVariants.{Fixed, Placed}

-- the cells at the places, row-major
abbrev pub cells_numbered : Elements → PlacedElements → List Cell
cells_numbered elements all = gather elements.fill (cells_of elements.type (payload_of all.came)) all.numbers.items

-- the cells of a box, row-major
abbrev pub cells_shown : Elements → BoxElements → List Cell
cells_shown elements (Fixed bytes width) = fixed_cells width bytes.items
cells_shown elements (Placed all) = cells_numbered elements all

-- bytes are elements of a type of one size
pub record AreSized (elements : Elements) (count width : ℕ) (bytes : List ℕ) : Type 0 where
  pub sized : byte_width elements.type ≡ Some width
  pub some : 0 < width
  pub long : length bytes ≡ count * width

-- elements, and for each place the number of one of them
pub record AreNumbered (elements : Elements) (count : ℕ) (all : PlacedElements) : Type 0 where
  pub counted : IsCounted elements.type (payload_of all.came) all.count (cells_of elements.type (payload_of all.came))
  pub many : length all.numbers.items ≡ count
  pub low : (k : ℕ) → k < count → slice_index all.numbers.items k < all.count

-- as many elements as a box has places
abbrev pub AreShown : Elements → Region → BoxElements → Type 0
AreShown elements box (Fixed bytes width) = AreSized elements (product box.shape) width bytes.items
AreShown elements box (Placed all) = AreNumbered elements (product box.shape) all
