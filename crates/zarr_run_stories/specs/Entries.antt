-- A key and its value as a line.
use Rattle.std.specs.Prelude.{ℕ, List, [], ◌∷◌, ◌++◌}
use Rattle.hex.specs.Hex.{encode_lower}

-- the line of a key and its value, with its line feed
abbrev pub entry_line : List ℕ → List ℕ → List ℕ
entry_line key value = encode_lower value ++ 32 ∷ (key ++ 10 ∷ [])
