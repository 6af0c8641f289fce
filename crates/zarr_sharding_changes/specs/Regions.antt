-- A box of new cells put over the cells of an array, or of a subchunk of it.
use Rattle.std.specs.Prelude.{◌≡◌, ℕ, ◌+◌, ◌-◌, ◌<◌, ◌≤◌, List, length, map, get_or, slice_index, if◌then◌else◌}
use Rattle.zarr_grids_boxes.specs.Boxes.{Region, is_in_box, ravel, place_at, each2}
use Rattle.zarr_codecs_meaning.specs.Types.{Cell}
use Rattle.zarr_codecs_meaning.specs.Places.{place_numbers}

-- the box with this start and these lengths lies in an array of this shape
pub record IsInside (start lengths shape : List ℕ) : Type 0 where
  pub starts : length start ≡ length shape
  pub ends : length lengths ≡ length shape
  pub below : (k : ℕ) → k < length shape → slice_index start k + slice_index lengths k ≤ slice_index shape k

-- all of an array of this shape
abbrev pub whole : List ℕ → Region
whole shape = record { start = map (λ size. 0) shape; shape = shape }

-- the cell of a place: the new one where the place lies in the region, else the one that was there
abbrev pub cell_after : Cell → Region → List Cell → List ℕ → Cell → Cell
cell_after fill region new place old =
    if is_in_box region.start region.shape place then get_or new (ravel (each2 (λ p start. p - start) place region.start) region.shape) fill else old

-- the cells of a box, row-major, after those of a region were replaced; the places of both count from the array's first
abbrev pub overlaid : Cell → Region → Region → List Cell → List Cell → List Cell
overlaid fill box region new cells = map (λ n. cell_after fill region new (place_at box.start box.shape n) (get_or cells n fill)) (place_numbers box.shape)
