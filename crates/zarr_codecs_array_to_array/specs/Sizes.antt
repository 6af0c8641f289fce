-- The sizes of the shape that `reshape` gives to an array.
use Rattle.std.specs.Prelude.{◌≡◌, ℕ, ◌-◌, ◌^◌, min, List, map, slice_index, nat_lt, true, false, MatchOption, Option}
use Rattle.std.specs.List.{list_all}
use Rattle.zarr_grids_boxes.specs.Boxes.{product}
use Rattle.zarr_codecs_meaning.specs.Chains.{ShapeEntry}
use Rattle.zarr_codecs_meaning.specs.Chains.ArrayCodec.{reshape}
use Rattle.zarr_codecs_meaning.specs.Chains.ShapeEntry.{size_entry, product_entry, left_over}
use Rattle.zarr_codecs_meaning.specs.Fits.{array_codec_fits}
use Rattle.zarr_codecs_meaning.specs.Places.{encoded_shape}

-- a number, or 2^128 - 1 where it is larger
abbrev pub capped : ℕ → ℕ
capped n = min n (2 ^ 128 - 1)

-- the size that an entry stands for, where one that is left over stands for this size
abbrev pub size_or : ℕ → List ℕ → ShapeEntry → ℕ
size_or left shape (size_entry size) = size
size_or left shape (product_entry dimensions) = product (map (slice_index shape) dimensions)
size_or left shape left_over = left

-- what is left over where `reshape` suits a shape: with it the entries are the sizes of the encoded shape
pub record IsSized (entries : List ShapeEntry) (shape : List ℕ) (left : ℕ) : Type 0 where
  pub fit : array_codec_fits (reshape entries) shape ≡ true
  pub sizes : map (size_or left shape) entries ≡ encoded_shape (reshape entries) shape
  pub small : list_all (λ size. nat_lt size (2 ^ 64)) (map (size_or left shape) entries) ≡ true

-- what is left over, or that `reshape` doesn't suit a shape
abbrev pub IsLeft : List ShapeEntry → List ℕ → Option ℕ → Type 0
IsLeft entries shape found = MatchOption found (array_codec_fits (reshape entries) shape ≡ false) (λ left. IsSized entries shape left)
