-- Node paths.
use Rattle.std.specs.Prelude.{ℕ, List, [], ◌∷◌, codes, bytes_eq, Bool, false, not, ◌&&◌, ◌||◌, ◌==◌}

-- whether the first byte of a text is "/"
abbrev pub begins_with_slash : List ℕ → Bool
begins_with_slash [] = false
begins_with_slash (x ∷ xs) = x == 47

-- whether the last byte of a text is "/"
abbrev pub ends_with_slash : List ℕ → Bool
ends_with_slash [] = false
ends_with_slash (x ∷ []) = x == 47
ends_with_slash (x ∷ y ∷ rest) = ends_with_slash (y ∷ rest)

-- whether two slashes stand side by side
abbrev pub has_double_slash : List ℕ → Bool
has_double_slash [] = false
has_double_slash (x ∷ []) = false
has_double_slash (x ∷ y ∷ rest) = (x == 47 && y == 47) || has_double_slash (y ∷ rest)

-- whether a text is a node path: it is `/`, or it begins with a slash, ends with none and has no two side by side
abbrev pub is_node_path : List ℕ → Bool
is_node_path path = bytes_eq path (codes "/") || (begins_with_slash path && not (ends_with_slash path) && not (has_double_slash path))
