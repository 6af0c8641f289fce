-- Offsets of elements of variable length.
use Rattle.std.specs.Prelude.{ℕ, List, [], ◌∷◌, Bool, true, false, ◌&&◌, nat_le}

-- whether there is a number, and none is less than the one before it
abbrev pub are_rising : List ℕ → Bool
are_rising [] = false
are_rising (n ∷ []) = true
are_rising (n ∷ m ∷ ns) = nat_le n m && are_rising (m ∷ ns)
