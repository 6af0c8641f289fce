-- Whole numbers as a JSON list.
use Rattle.std.specs.Prelude.{ℕ, List, [], ◌∷◌}
use Rattle.serde_json.specs.Data.{number, unsigned, Items, no_items, item}

-- the JSON list of whole numbers
abbrev pub number_items : List ℕ → Items
number_items [] = no_items
number_items (n ∷ ns) = item (number (unsigned n)) (number_items ns)
