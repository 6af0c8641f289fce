-- What is left of a list of repeats.
use Rattle.std.specs.Prelude.{ℕ, ◌+◌, List, [], ◌∷◌, length, Option, Some, None}
use Rattle.zarr_grids_dimensions.specs.declared.repeats_left.RepeatsLeft.{RepeatsLeft}
use Rattle.zarr_grids_dimensions.specs.RepeatedEdges.{expanded}

-- the edges that are left
abbrev pub edges_left : Option RepeatsLeft → List ℕ
edges_left None = []
edges_left (Some left) = expanded (left.first ∷ left.later.now)

-- how many repeats are left
abbrev pub repeats_left : Option RepeatsLeft → ℕ
repeats_left None = 0
repeats_left (Some left) = 1 + length left.later.now
