-- Cells of one box put over those of another.
use Rattle.std.specs.Prelude.{◌≡◌, ℕ, List}
use Rattle.zarr_grids_boxes.specs.Boxes.{Region}
use Rattle.zarr_grids_boxes.specs.Laid.{laid, overlaid, HasWidth}
use Rattle.zarr_grids_overlay.specs.declared.extents.Extent.{Extent}

-- the box that an extent is
abbrev pub extent_of : Extent → Region
extent_of extent = record { start = extent.start.now; shape = extent.shape.now }

-- the bytes of a box are those before, with the new cell at each place that another box has too, given that box's bytes
abbrev pub IsOverlaid : ℕ → Region → Region → List ℕ → List ℕ → List ℕ → Type 0
IsOverlaid width into from before given after = (old new : List ℕ → List ℕ) → HasWidth width old → HasWidth width new
    → before ≡ laid old into.start into.shape
    → given ≡ laid new from.start from.shape
    → after ≡ laid (overlaid from.start from.shape new old) into.start into.shape
