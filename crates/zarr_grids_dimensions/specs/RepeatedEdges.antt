-- Repeats of equal edges, and the edges that they stand for.
use Rattle.std.specs.Prelude.{ℕ, ◌+◌, ◌*◌, List, [], ◌∷◌, ◌++◌, map, replicate}
use Rattle.zarr_grids_dimensions.specs.declared.repeat.RepeatedEdge.{RepeatedEdge}

-- the edges of all chunks, one after another
abbrev pub expanded : List RepeatedEdge → List ℕ
expanded [] = []
expanded (repeat ∷ repeats) = replicate repeat.count repeat.edge ++ expanded repeats

-- the edge of each entry
abbrev pub edges : List RepeatedEdge → List ℕ
edges repeats = map (λ (repeat : RepeatedEdge). repeat.edge) repeats

-- how many chunks each entry stands for
abbrev pub counts : List RepeatedEdge → List ℕ
counts repeats = map (λ (repeat : RepeatedEdge). repeat.count) repeats

-- how many places each repeat has
abbrev pub lengths : List RepeatedEdge → List ℕ
lengths repeats = map (λ (repeat : RepeatedEdge). repeat.count * repeat.edge) repeats

-- a number, and its sums with the first numbers of a list: one of them, two, and so on to all
abbrev pub running : ℕ → List ℕ → List ℕ
running n [] = n ∷ []
running n (x ∷ xs) = n ∷ running (n + x) xs
