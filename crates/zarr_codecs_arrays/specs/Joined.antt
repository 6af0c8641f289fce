-- Elements of variable length that were made.
use Rattle.std.specs.Prelude.{◌≡◌, ℕ, List, Some}
use Rattle.zarr_codecs_meaning.specs.Payloads.{variable, variable_in}
use Rattle.zarr_codecs_meaning.specs.Types.{Cell}
use Rattle.zarr_codecs_arrays.specs.Views.{payload_of}
use Rattle.zarr_codecs_arrays.specs.declared.array_bytes.ArrayBytes.{ArrayBytes}

-- elements of variable length, which are these
pub record IsVariable (cells : List Cell) (made : ArrayBytes) : Type 0 where
  pub bytes : List ℕ
  pub offsets : List ℕ
  pub are : payload_of made ≡ variable bytes offsets
  pub cut : variable_in offsets bytes ≡ Some cells
