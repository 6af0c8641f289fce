-- The lines of a box, along its last dimension.
use Rattle.std.specs.Prelude.{List, ℕ, [], ◌∷◌}
use Rattle.std.specs.List.{flat_map, range_with_len}
use Rattle.zarr_grids_boxes.specs.Boxes.{Region}

-- a shape of lines of one place
abbrev pub with_first_alone : List ℕ → List ℕ
with_first_alone [] = []
with_first_alone (e ∷ []) = 1 ∷ []
with_first_alone (e ∷ f ∷ es) = e ∷ with_first_alone (f ∷ es)

-- the first places of the lines of a box
abbrev pub first_places : Region → Region
first_places region = record { start = region.start; shape = with_first_alone region.shape }

-- how many places each line of a box of this shape has
abbrev pub line_length : List ℕ → ℕ
line_length [] = 1
line_length (e ∷ []) = e
line_length (e ∷ f ∷ es) = line_length (f ∷ es)

-- the numbers of the places of lines that begin at these numbers, of so many places each
abbrev pub line_numbers : ℕ → List ℕ → List ℕ
line_numbers length firsts = flat_map (λ n. range_with_len n length) firsts
