-- How many bytes of a value are taken at most.
use Rattle.std.proofs.Common.{◌≡◌, ℕ, ◌+◌, ◌≤◌, List, [], ◌∷◌, map, length, refl, arith, Option, Some, None}
use Rattle.zarr_codecs_meaning.specs.Chains.{ArrayCodec, ByteCodec, Chain}
use Rattle.zarr_codecs_meaning.specs.Chains.Chain.{after_array_codec, then_bytes}
use Rattle.zarr_codecs_meaning.specs.Places.{encoded_shape}
use Rattle.zarr_codecs_meaning.specs.Types.{DataType}
use Rattle.zarr_codecs_array_to_array.specs.Moving.{moved_numbers}
use Rattle.zarr_codecs_traits.specs.Indexers.{Asked, numbers_asked}
use Rattle.zarr_codecs_traits.specs.ReadBytes.{bytes_of_numbers, most_of_numbers, most_read}
use Rattle.zarr_codecs_traits.specs.Sources.{value_length}
use Rattle.zarr_codecs_around.specs.Views.{with_codecs}

-- a chain of which all of a value is taken takes no more than it has
pub all_most : (chain : Chain) (type : DataType) (shape : List ℕ) (contents : Option (List ℕ)) (asked : Asked) (old new : ℕ) → ((ns value : List ℕ) → bytes_of_numbers chain type shape ns value ≡ length value)
    → new ≤ old + value_length contents → new ≤ old + most_read chain type shape contents asked
all_most chain type shape None asked old new all h = h
all_most chain type shape (Some value) asked old new all h =
    let long : new ≤ old + length value = h in
    most (bytes_of_numbers chain type shape (numbers_asked shape asked) value) (length value) (all (numbers_asked shape asked) value) long where
      most : (a n : ℕ) → a ≡ n → new ≤ old + n → new ≤ old + a
      most a n is long = omega (arith, is, long)

-- with the caller's codecs after it, a chain takes all of a value
all_with : (chain : Chain) (codec : ByteCodec) (codecs : List ByteCodec) (type : DataType) (shape ns value : List ℕ) → bytes_of_numbers (with_codecs (then_bytes chain codec) codecs) type shape ns value ≡ length value
all_with chain codec [] type shape ns value = refl
all_with chain codec (next ∷ codecs) type shape ns value = all_with (then_bytes chain codec) next codecs type shape ns value

pub codecs_most : {B : Type 0} (chain : Chain) (meaning : B → ByteCodec) (codecs : List B) (type : DataType) (shape : List ℕ) (contents : Option (List ℕ)) (asked : Asked) (old new : ℕ) → (length codecs ≡ 0 → ⊥) → new ≤ old + value_length contents
    → new ≤ old + most_read (with_codecs chain (map meaning codecs)) type shape contents asked
codecs_most chain meaning [] type shape contents asked old new some h = absurd (some refl)
codecs_most chain meaning (codec ∷ codecs) type shape contents asked old new some h =
    all_most (with_codecs (then_bytes chain (meaning codec)) (map meaning codecs)) type shape contents asked old new (λ ns value. all_with chain (meaning codec) (map meaning codecs) type shape ns value) h

-- array codecs take what the chain after them takes
pub after_most : (codec : ArrayCodec) (chain : Chain) (type : DataType) (shape : List ℕ) (contents : Option (List ℕ)) (numbers : List ℕ) → most_of_numbers chain type (encoded_shape codec shape) contents (moved_numbers codec shape numbers) ≡ most_of_numbers (after_array_codec codec chain) type shape contents numbers
after_most codec chain type shape None numbers = refl
after_most codec chain type shape (Some value) numbers = refl
