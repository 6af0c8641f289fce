-- Which arrays a shard suits.
use Rattle.std.specs.Prelude.{◌≡◌, ℕ, ◌-◌, ◌^◌, ◌<◌, min, List, ◌++◌, length, map, get_or, Option, None, Some, option_map, Bool, true, false, Result, Ok, Err}
use Rattle.std.specs.List.{list_all, list_any}
use Rattle.zarr_codecs_meaning.specs.Chains.{Chain, bytes, packbits, vlen, optional, after_array_codec, then_bytes, sharded}
use Rattle.zarr_codecs_meaning.specs.Encoding.{index_size}
use Rattle.zarr_codecs_meaning.specs.Fits.{bound_of, fits, representation_of, sum_of_bounds, tells_too_long}
use Rattle.zarr_codecs_meaning.specs.Places.{Part, index_shape, parts_of}
use Rattle.zarr_codecs_meaning.specs.Types.{DataType}
use Rattle.zarr_codecs_arrays.specs.declared.error.CodecError.{CodecError}
use Rattle.zarr_codecs_arrays.specs.declared.error.CodecError.TheVariants as error
use Rattle.zarr_codecs_traits.specs.Representations.{RepresentsArray}

-- how many bytes the index of a shard alone has
abbrev pub index_length : Chain → List ℕ → ℕ
index_length (bytes order) shape = 0
index_length (packbits padding first last) shape = 0
index_length (vlen index «data» width location) shape = 0
index_length (optional mask values) shape = 0
index_length (after_array_codec codec chain) shape = 0
index_length (then_bytes chain codec) shape = 0
index_length (sharded subchunk inner index location) shape = index_size index (index_shape shape subchunk)

-- whether a shard suits arrays of a type and a shape, and how many bytes its index then has
abbrev pub Suits : Chain → DataType → List ℕ → Option ℕ → Type 0
Suits chain type shape None = fits chain type shape ≡ false
Suits chain type shape (Some size) = (fits chain type shape ≡ true) × (size ≡ index_length chain shape)

-- ---- the shapes of subchunks, dimension by dimension

-- whether a chain fits each subchunk of an array
abbrev pub parts_fit : Chain → DataType → List ℕ → List ℕ → Bool
parts_fit inner type shape subchunk = list_all (λ (part : Part). fits inner type part.shape) (parts_of shape subchunk)

-- the last dimensions of an array, by their sizes and the subchunk's, and how long a subchunk is in the dimensions before them
pub record LastDimensions : Type 0 where
  pub front : List ℕ
  pub sizes : List ℕ
  pub edges : List ℕ

-- the same, put together
abbrev pub behind : List ℕ → List ℕ → List ℕ → LastDimensions
behind front sizes edges = record { front = front; sizes = sizes; edges = edges }

-- the shapes of the subchunks that are so long in the dimensions before
abbrev pub shapes_behind : LastDimensions → List (List ℕ)
shapes_behind last = map (λ (part : Part). last.front ++ part.shape) (parts_of last.sizes last.edges)

-- whether a chain fits each of these shapes
abbrev pub fits_shapes : Chain → DataType → LastDimensions → Bool
fits_shapes inner type last = list_all (λ shape. fits inner type shape) (shapes_behind last)

-- the sum of the bounds of what a chain makes of one array of each of these shapes, where each has a bound
abbrev pub bound_of_shapes : Chain → DataType → LastDimensions → Option ℕ
bound_of_shapes inner type last = sum_of_bounds (map (λ shape. bound_of (representation_of inner type shape)) (shapes_behind last))

-- a number as 64 bits tell it: the largest of them tells itself and all numbers past it
abbrev pub capped : ℕ → ℕ
capped n = min n (2 ^ 64 - 1)

-- what a chain makes of an array of one of these shapes is too long
pub record IsOneTooLong (inner : Chain) (type : DataType) (shapes : List (List ℕ)) : Type 0 where
  pub number : ℕ
  pub below : number < length shapes
  pub is : (d : List ℕ) → RepresentsArray inner type (get_or shapes number d) (Err error.Size)

-- whether one of the codecs tells too long a size of an array of one of these shapes
abbrev pub any_told_long : Chain → DataType → LastDimensions → Bool
any_told_long inner type last = list_any (λ shape. tells_too_long inner type shape) (shapes_behind last)

-- the sum of these bounds, where each is there, and no codec tells too long a size
pub record AreBounded (inner : Chain) (type : DataType) (last : LastDimensions) (found : Option ℕ) : Type 0 where
  pub sum : found ≡ option_map capped (bound_of_shapes inner type last)
  pub short : any_told_long inner type last ≡ false

-- the sum of these bounds, or why it isn't known: one of them is too long
abbrev pub BoundsShapes : Chain → DataType → LastDimensions → Result (Option ℕ) CodecError → Type 0
BoundsShapes inner type last (Ok found) = AreBounded inner type last found
BoundsShapes inner type last (Err error.Size) = IsOneTooLong inner type (shapes_behind last)
BoundsShapes inner type last (Err error.Memory) = Unit {0}
BoundsShapes inner type last (Err e) = ⊥

-- the bound of what a chain makes of an array alone, or why it isn't known
abbrev pub BoundsAlone : Chain → DataType → List ℕ → Result (Option ℕ) CodecError → Type 0
BoundsAlone chain type shape (Ok found) = (found ≡ option_map capped (bound_of (representation_of chain type shape))) × (tells_too_long chain type shape ≡ false)
BoundsAlone chain type shape (Err error.Size) = RepresentsArray chain type shape (Err error.Size)
BoundsAlone chain type shape (Err error.Memory) = Unit {0}
BoundsAlone chain type shape (Err e) = ⊥
