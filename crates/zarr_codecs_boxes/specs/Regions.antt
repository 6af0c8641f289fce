-- The box of an encoded array that a box of the array becomes.
use Rattle.std.specs.Prelude.{ℕ, List, [], ◌∷◌, map, slice_index, Option, Some, None, if◌then◌else◌, ◌==◌}
use Rattle.zarr_grids_boxes.specs.Boxes.{Region, product}
use Rattle.zarr_codecs_meaning.specs.Chains.{ArrayCodec}
use Rattle.zarr_codecs_meaning.specs.Chains.ArrayCodec.{transpose, reshape, squeeze}
use Rattle.zarr_codecs_meaning.specs.Places.{squeezed}

-- a box with the starts and sizes of these dimensions, in this order
abbrev pub transposed_region : List ℕ → Region → Region
transposed_region order region = record { start = map (slice_index region.start) order; shape = map (slice_index region.shape) order }

-- of numbers for the dimensions of a shape, those of the dimensions that are not of size one
abbrev pub kept_numbers : List ℕ → List ℕ → List ℕ
kept_numbers [] numbers = []
kept_numbers (size ∷ sizes) [] = []
kept_numbers (size ∷ sizes) (number ∷ numbers) = if size == 1 then kept_numbers sizes numbers else number ∷ kept_numbers sizes numbers

-- the same, or another number alone where each dimension is of size one
abbrev pub squeezed_numbers : ℕ → List ℕ → List ℕ → List ℕ
squeezed_numbers other shape numbers = elim (kept_numbers shape numbers) [ [] ↦ other ∷ [] | first ∷ rest ↦ first ∷ rest ]

-- a box without the dimensions in which the array is of size one; one that has no place there has none afterwards
abbrev pub squeezed_region : List ℕ → Region → Region
squeezed_region shape region = record {
  start = squeezed_numbers 0 shape region.start;
  shape = if product region.shape == 0 then map (λ size. 0) (squeezed shape) else squeezed_numbers 1 shape region.shape;
}

-- the box of the encoded array that a box of an array of this shape becomes; a `reshape` makes no box of it in general
abbrev pub encoded_region : ArrayCodec → List ℕ → Region → Option Region
encoded_region (transpose order) shape region = Some (transposed_region order region)
encoded_region (reshape entries) shape region = None
encoded_region squeeze shape region = Some (squeezed_region shape region)
