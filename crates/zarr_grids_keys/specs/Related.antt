-- When two node paths are related, and which path is right above one.
use Rattle.std.specs.Prelude.{◌≡◌, ℕ, List, [], ◌∷◌, ◌++◌, codes, bytes_eq, nat_eq, Bool, not, ◌||◌, ◌==◌, Option, Some, None, if◌then◌else◌}
use Rattle.std.specs.List.{starts_with, before_last}

-- whether the second path is under the first: under `/` is every other path, under another path what begins with it and a slash
abbrev pub is_under : List ℕ → List ℕ → Bool
is_under path other = if bytes_eq path (codes "/") then not (bytes_eq other (codes "/")) else starts_with nat_eq other (path ++ codes "/")

-- whether two paths are equal, or one is under the other
abbrev pub is_related : List ℕ → List ℕ → Bool
is_related path other = bytes_eq path other || is_under path other || is_under other path

-- a text, or `/` in place of none
abbrev pub or_root : List ℕ → List ℕ
or_root [] = codes "/"
or_root (x ∷ xs) = x ∷ xs

-- the path right above a node path: none above `/`, else what stands before the last slash, or `/` where nothing does
abbrev pub parent_path : List ℕ → Option (List ℕ)
parent_path path = if bytes_eq path (codes "/") then None else Some (or_root (before_last (λ byte. byte == 47) path))

-- a path is reached from another by one step to the parent, or by more
pub data IsReached (above : List ℕ) : List ℕ → Type 0 where
  here : (path : List ℕ) → parent_path path ≡ Some above → IsReached above path
  further : (path parent : List ℕ) → parent_path path ≡ Some parent → IsReached above parent → IsReached above path
