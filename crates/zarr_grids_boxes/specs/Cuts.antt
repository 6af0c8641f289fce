-- Boxes made from boxes.
use Rattle.std.specs.Prelude.{◌≡◌, ℕ, ◌+◌, ◌-◌, ◌<◌, ◌≤◌, List, length, slice_index, min, max}
use Rattle.zarr_grids_boxes.specs.Boxes.{Region, each2}

-- the first number past the box in each dimension
abbrev pub ends : Region → List ℕ
ends box = each2 (λ s e. s + e) box.start box.shape

-- the box from a start to an end: of length 0 in a dimension where the end is not after the start
abbrev pub between : List ℕ → List ℕ → Region
between start end = record { start = start; shape = each2 (λ s e. e - s) start end }

-- the box from the later start to the earlier end
abbrev pub overlapped : Region → Region → Region
overlapped a b = between (each2 max a.start b.start) (each2 min (ends a) (ends b))

-- the box of a box's places below an end
abbrev pub bounded : Region → List ℕ → Region
bounded box end = between (each2 min box.start end) (each2 min (ends box) end)

-- the box as seen from an offset
abbrev pub relative : Region → List ℕ → Region
relative box offset = record { start = each2 (λ s o. s - o) box.start offset; shape = box.shape }

-- as many numbers, each at most the other's
pub record IsAtMost (xs ys : List ℕ) : Type 0 where
  pub same : length xs ≡ length ys
  pub each : (k : ℕ) → k < length ys → slice_index xs k ≤ slice_index ys k

-- as many numbers, one of them more than the other's
abbrev pub HasOneNotAtMost : List ℕ → List ℕ → Type 0
HasOneNotAtMost xs ys = (length xs ≡ length ys) × (¬ IsAtMost xs ys)
