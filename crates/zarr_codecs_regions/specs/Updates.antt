-- Elements of an array that are taken out of it, and that are replaced.
use Rattle.std.specs.Prelude.{◌≡◌, ◌⊎◌, ℕ, ◌^◌, ◌≤◌, List, length, Some, Result, Ok, Err, true, false}
use Rattle.zarr_grids_boxes.specs.Boxes.{product}
use Rattle.zarr_codecs_meaning.specs.Payloads.{Payload, cells_in}
use Rattle.zarr_codecs_meaning.specs.Places.{gather}
use Rattle.zarr_codecs_meaning.specs.Types.{DataType, Cell}
use Rattle.zarr_codecs_arrays.specs.Outcomes.{IsCounted, IsMiscounted}
use Rattle.zarr_codecs_arrays.specs.Views.{payload_of}
use Rattle.zarr_codecs_arrays.specs.declared.array_bytes.ArrayBytes.{ArrayBytes}
use Rattle.zarr_codecs_arrays.specs.declared.error.CodecError.{CodecError}
use Rattle.zarr_codecs_arrays.specs.declared.error.CodecError.TheVariants as error
use Rattle.zarr_codecs_traits.specs.Indexers.{Asked, are_inside, numbers_asked}
pub use Rattle.zarr_codecs_traits.specs.Indexers.{put}

-- some places of an array: the data type of its elements, its shape, and what is asked for
pub record ArrayPlaces : Type 0 where
  pub type : DataType
  pub shape : List ℕ
  pub asked : Asked

-- what is asked for of an array of this type and shape
abbrev pub array_places : DataType → List ℕ → Asked → ArrayPlaces
array_places type shape asked = record { type = type; shape = shape; asked = asked }

-- the elements at the places of an array that are asked for were taken out of it
pub record IsExtracted (places : ArrayPlaces) (array made : Payload) (cells : List Cell) : Type 0 where
  pub array_is : IsCounted places.type array (product places.shape) cells
  pub inside : are_inside places.shape places.asked ≡ true
  pub made_is : (other : Cell) → cells_in places.type made ≡ Some (gather other cells (numbers_asked places.shape places.asked))

-- the elements at the places of an array that are asked for, or why there are none: the array is too large, its elements are more or fewer or of another form, or a place is not the array's
abbrev pub Extracts : ArrayPlaces → Payload → Result ArrayBytes CodecError → Type 0
Extracts places array (Ok made) = (cells : List Cell) × IsExtracted places array (payload_of made) cells
Extracts places array (Err error.IncompatibleIndexer) = are_inside places.shape places.asked ≡ false
Extracts places array (Err error.Size) = 2 ^ 63 ≤ product places.shape
Extracts places array (Err error.Memory) = Unit {0}
Extracts places array (Err e) = IsMiscounted places.type array (product places.shape) e

-- new elements can be put at places of an array: `before` are the array's elements, `given` the new ones, one for each place
pub record CanUpdate (places : ArrayPlaces) (array update : Payload) (before given : List Cell) : Type 0 where
  pub array_is : IsCounted places.type array (product places.shape) before
  pub inside : are_inside places.shape places.asked ≡ true
  pub update_is : IsCounted places.type update (length (numbers_asked places.shape places.asked)) given

-- why new elements are not put into an array: those of the array or the new ones are more or fewer or of another form
abbrev pub IsNoUpdate : ArrayPlaces → Payload → Payload → CodecError → Type 0
IsNoUpdate places array update e = IsMiscounted places.type array (product places.shape) e ⊎ IsMiscounted places.type update (length (numbers_asked places.shape places.asked)) e

-- the elements of an array after new ones were put at the places that are asked for, or why there are none: the array is too large, a place is not the array's, or elements are more or fewer or of another form
abbrev pub Updates : ArrayPlaces → Payload → Payload → Result ArrayBytes CodecError → Type 0
Updates places array update (Ok made) =
    (before given : List Cell) × CanUpdate places array update before given × (cells_in places.type (payload_of made) ≡ Some (put (numbers_asked places.shape places.asked) given before))
Updates places array update (Err error.IncompatibleIndexer) = are_inside places.shape places.asked ≡ false
Updates places array update (Err error.Size) = 2 ^ 63 ≤ product places.shape
Updates places array update (Err error.Memory) = Unit {0}
Updates places array update (Err e) = IsNoUpdate places array update e
