-- Elements of an array while those at some of its places are put over them.
use Rattle.std.specs.Prelude.{◌≡◌, List, length, Some, true, nat_lt}
use Rattle.std.specs.List.{list_all}
use Rattle.zarr_codecs_meaning.specs.Payloads.{cells_in}
use Rattle.zarr_codecs_meaning.specs.Places.{gather}
use Rattle.zarr_codecs_meaning.specs.Types.{Cell, Elements}
use Rattle.zarr_codecs_arrays.specs.Views.{payload_of}
use Rattle.zarr_sharding_places.specs.declared.placed.PlacedElements.{PlacedElements}

-- what was put shows these cells: each place has the number of one of the elements that came
pub record Shows (elements : Elements) (all : PlacedElements) (cells : List Cell) : Type 0 where
  pub came : List Cell
  pub lists : cells_in elements.type (payload_of all.came) ≡ Some came
  pub many : length came ≡ all.count
  pub low : list_all (λ n. nat_lt n (length came)) all.numbers.items ≡ true
  pub is : gather elements.fill came all.numbers.items ≡ cells
