-- Numbers that array codecs move, one after another.
use Rattle.std.specs.Prelude.{◌≡◌, ℕ, List, [], ◌∷◌, true, false, Result, Ok, Err}
use Rattle.zarr_codecs_meaning.specs.Chains.{ArrayCodec}
use Rattle.zarr_codecs_meaning.specs.Places.{encoded_shape}
use Rattle.zarr_codecs_arrays.specs.declared.error.CodecError.{CodecError}
use Rattle.zarr_codecs_arrays.specs.declared.error.CodecError.TheVariants as error
use Rattle.zarr_codecs_array_to_array.specs.Moving.{are_places, moved_numbers}
use Rattle.zarr_codecs_around.specs.ArrayCodecs.{all_fit, shape_after}
use Rattle.zarr_codecs_around.specs.declared.moved_numbers.MovedNumbers.{MovedNumbers}

-- the numbers, after array codecs, of the places with these numbers before them
abbrev pub numbers_after : List ArrayCodec → List ℕ → List ℕ → List ℕ
numbers_after [] shape numbers = numbers
numbers_after (codec ∷ codecs) shape numbers = numbers_after codecs (encoded_shape codec shape) (moved_numbers codec shape numbers)

-- the shape of an array and numbers of its places, after array codecs that suit it
pub record AreMoved (codecs : List ArrayCodec) (shape numbers last moved : List ℕ) : Type 0 where
  pub fit : all_fit codecs shape ≡ true
  pub last_is : last ≡ shape_after codecs shape
  pub moved_are : moved ≡ numbers_after codecs shape numbers
  pub inside : are_places last moved ≡ true

-- numbers that array codecs move, or that one of the codecs does not suit the shape that reaches it
abbrev pub MovesNumbers : List ArrayCodec → List ℕ → List ℕ → Result MovedNumbers CodecError → Type 0
MovesNumbers codecs shape numbers (Ok made) = AreMoved codecs shape numbers made.shape.items made.numbers.items
MovesNumbers codecs shape numbers (Err error.Fit) = all_fit codecs shape ≡ false
MovesNumbers codecs shape numbers (Err error.Memory) = Unit {0}
MovesNumbers codecs shape numbers (Err e) = ⊥
