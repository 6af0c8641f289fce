-- Numbers of indices and of places, and what a walk has left.
use Rattle.std.specs.Prelude.{ℕ, ◌-◌, ◌/◌, ◌%◌, List, [], ◌∷◌, map, drop, cond}
use Rattle.zarr_grids_boxes.specs.Boxes.{Region, product, places, ravel, each2}
use Rattle.zarr_grids_boxes.specs.Subsets.{region_of}
use Rattle.zarr_grids_boxes.specs.declared.indices.Indices.{Indices}
use Rattle.zarr_grids_boxes.specs.declared.linearised.LinearisedIndices.{LinearisedIndices}

-- the index with number n below this shape
abbrev pub unravel : List ℕ → ℕ → List ℕ
unravel [] n = []
unravel (e ∷ es) n = (n / product es) ∷ unravel es (n % product es)

-- the number of a place among the places of its box
abbrev pub number_in : Region → List ℕ → ℕ
number_in box place = ravel (each2 (λ p s. p - s) place box.start) box.shape

-- the places that a walk has left
abbrev pub indices_left : Indices → List (List ℕ)
indices_left walk =
    let box = region_of walk.subset.now in
    cond walk.more (drop (number_in box walk.next.items) (places box.start box.shape)) []

-- the numbers, in an array of this shape, of the places of a box
abbrev pub linearised : Region → List ℕ → List ℕ
linearised box array_shape = map (λ place. ravel place array_shape) (places box.start box.shape)

-- the numbers that a walk has left
abbrev pub linearised_left : LinearisedIndices → List ℕ
linearised_left walk = drop walk.next (linearised (region_of walk.subset.now) walk.array_shape.now)
