-- Places of an array that are asked for.
use Rattle.std.specs.Prelude.{◌≡◌, ℕ, ◌^◌, ◌≤◌, List, true, false, Result, Ok, Err}
use Rattle.zarr_grids_boxes.specs.Boxes.{product}
use Rattle.zarr_codecs_arrays.specs.declared.error.CodecError.{CodecError}
use Rattle.zarr_codecs_arrays.specs.declared.error.CodecError.TheVariants as error
use Rattle.zarr_codecs_traits.specs.Indexers.{Asked, are_inside}

-- that all places that are asked for are those of a shape, or why this is not so: one is not, or the shape has too many
abbrev pub TestsAsked : {A : Type 0} → List ℕ → Asked → Result A CodecError → Type 0
TestsAsked shape asked (Ok value) = are_inside shape asked ≡ true
TestsAsked shape asked (Err error.IncompatibleIndexer) = are_inside shape asked ≡ false
TestsAsked shape asked (Err error.Size) = 2 ^ 63 ≤ product shape
TestsAsked shape asked (Err e) = ⊥
