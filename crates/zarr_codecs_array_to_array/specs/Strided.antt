-- Places as sums of strides.
use Rattle.std.specs.Prelude.{ℕ, ◌+◌, ◌*◌, List, [], ◌∷◌}

-- how far a place lies from the first one, by the strides of its dimensions
abbrev pub distance : List ℕ → List ℕ → ℕ
distance [] strides = 0
distance (i ∷ is) [] = 0
distance (i ∷ is) (stride ∷ strides) = i * stride + distance is strides
