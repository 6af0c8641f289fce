-- The bytes of a box: its cells row-major, one after another.
use Rattle.std.specs.Prelude.{◌≡◌, ℕ, List, length, if◌then◌else◌}
use Rattle.std.specs.List.{flat_map}
use Rattle.zarr_grids_boxes.specs.Boxes.{places, is_in_box}

-- the bytes of a box whose place p has the cell `cells p`
abbrev pub laid : (List ℕ → List ℕ) → List ℕ → List ℕ → List ℕ
laid cells start shape = flat_map cells (places start shape)

-- each cell has this many bytes
abbrev pub HasWidth : ℕ → (List ℕ → List ℕ) → Type 0
HasWidth width cells = (place : List ℕ) → length (cells place) ≡ width

-- the cells after those of a box were replaced by new ones
abbrev pub overlaid : List ℕ → List ℕ → (List ℕ → List ℕ) → (List ℕ → List ℕ) → List ℕ → List ℕ
overlaid start shape new old place = if is_in_box start shape place then new place else old place
