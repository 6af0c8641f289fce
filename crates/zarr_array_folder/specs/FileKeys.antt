-- Which keys of a store are files below a folder.
use Rattle.std.specs.Prelude.{ℕ, List, [], ◌∷◌, codes, bytes_eq, Bool, not, ◌==◌, if◌then◌else◌}
use Rattle.std.specs.List.{list_all, list_any}

-- a byte put before the first of some parts
abbrev pub onto_first : ℕ → List (List ℕ) → List (List ℕ)
onto_first x [] = (x ∷ []) ∷ []
onto_first x (part ∷ parts) = (x ∷ part) ∷ parts

-- the parts of a key between its slashes; a slash at an end, or beside another, has an empty part there
abbrev pub parts_of : List ℕ → List (List ℕ)
parts_of [] = [] ∷ []
parts_of (x ∷ xs) = if x == 47 then [] ∷ parts_of xs else onto_first x (parts_of xs)

-- the names that no file or folder of a store has: the empty one, the folder itself, the folder above it, and the file that a value is written to before it has its own name
abbrev pub refused_names : List (List ℕ)
refused_names = [] ∷ codes "." ∷ codes ".." ∷ codes ".zarr_run.tmp" ∷ []

-- whether a file or folder of a store may have this name
abbrev pub is_file_name : List ℕ → Bool
is_file_name name = not (list_any (bytes_eq name) refused_names)

-- whether a key is the path of a file below the store's folder: each of its parts is a name that a file may have
abbrev pub is_file_key : List ℕ → Bool
is_file_key key = list_all is_file_name (parts_of key)
