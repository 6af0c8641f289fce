-- How many cells elements of a box show.
use Rattle.std.proofs.Common.{◌≡◌, length}
use Rattle.zarr_grids_boxes.specs.Boxes.{Region, product}
use Rattle.zarr_codecs_meaning.specs.Types.{Elements}
use Rattle.zarr_array_elements.specs.Views.{AreShown, cells_shown}
use Rattle.zarr_array_elements.specs.declared.box_elements.BoxElements.{BoxElements}
use Rattle.zarr_array_elements.specs.declared.box_elements.BoxElements.TheVariants.{Fixed, Placed}
use Rattle.zarr_array_elements.proofs.FixedCells.{length-fixed_cells}
use Rattle.zarr_array_elements.proofs.PlacedShown.{length-numbered}

pub length-shown : (elements : Elements) (box : Region) (shown : BoxElements) → AreShown elements box shown → length (cells_shown elements shown) ≡ product box.shape
length-shown elements box (Fixed bytes width) are = length-fixed_cells width (product box.shape) bytes.items are.some are.long
length-shown elements box (Placed all) are = length-numbered elements (product box.shape) all are
