-- Elements of an array while those of boxes of it are put over them.
use Rattle.std.specs.Prelude.{◌≡◌, List, Some}
use Rattle.zarr_codecs_meaning.specs.Payloads.{cells_in, fixed}
use Rattle.zarr_codecs_meaning.specs.Types.{Cell, Elements}
use Rattle.zarr_sharding_places.specs.Placed.{Shows}
use Rattle.zarr_sharding_places.specs.declared.boxed.BoxedElements.{BoxedElements}
use Rattle.zarr_sharding_places.specs.declared.boxed.BoxedElements.TheVariants as boxed

-- what was put shows these cells: the bytes are these elements, or each place has the number of one of the elements that came
abbrev pub ShowsBoxes : Elements → BoxedElements → List Cell → Type 0
ShowsBoxes elements (boxed.Fixed bytes) cells = cells_in elements.type (fixed bytes.items) ≡ Some cells
ShowsBoxes elements (boxed.Placed all) cells = Shows elements all cells
