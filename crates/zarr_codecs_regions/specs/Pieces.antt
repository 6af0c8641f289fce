-- Elements of variable length.
use Rattle.std.specs.Prelude.{ℕ, ◌+◌, ◌-◌, List, [], ◌∷◌, length, slice_index, take, drop}

-- the bytes of the element with a number, between its offset and the next
abbrev pub piece_of : List ℕ → List ℕ → ℕ → List ℕ
piece_of offsets bytes n = take (slice_index offsets (n + 1) - slice_index offsets n) (drop (slice_index offsets n) bytes)

-- where elements that begin at a number end, one after another
abbrev pub ends_of : ℕ → List (List ℕ) → List ℕ
ends_of start [] = []
ends_of start (piece ∷ pieces) = (start + length piece) ∷ ends_of (start + length piece) pieces
