-- The store keys of chunks.
use Rattle.std.specs.Prelude.{ℕ, List, [], ◌∷◌, ◌++◌, drop, codes, bytes_eq, decimal, if◌then◌else◌, Bool, true, false, not, ◌||◌, ◌==◌}
use Rattle.std.specs.List.{flat_map, list_any}

-- how a chunk's index becomes a key
pub data KeyEncoding : Type 0 where
  default : (separator : ℕ) → KeyEncoding
  v2 : (separator : ℕ) → KeyEncoding
  suffixed : (separator : ℕ) → (suffix : List ℕ) → KeyEncoding

-- the indices of a chunk, for each the separator and the decimal number
abbrev pub numbers_after : ℕ → List ℕ → List ℕ
numbers_after separator chunk = flat_map (λ index. separator ∷ decimal index) chunk

-- the encoded key of `default`: c, then for each index the separator and the decimal number
abbrev pub default_key : ℕ → List ℕ → List ℕ
default_key separator chunk = codes "c" ++ numbers_after separator chunk

-- the encoded key of a chunk (Zarr core, chunk key encodings): of `v2` the numbers with the separator between them, and 0 where there are none; of `default_suffix` (this project's profile) that of `default` and the suffix
abbrev pub encoded_key : KeyEncoding → List ℕ → List ℕ
encoded_key (default separator) chunk = default_key separator chunk
encoded_key (v2 separator) [] = codes "0"
encoded_key (v2 separator) (index ∷ rest) = decimal index ++ numbers_after separator rest
encoded_key (suffixed separator suffix) chunk = default_key separator chunk ++ suffix

-- the store key of a name under a node path: at the root the name alone, else the path without its first slash, a slash and the name
abbrev pub key_under : List ℕ → List ℕ → List ℕ
key_under path name = if bytes_eq path (codes "/") then name else drop 1 path ++ 47 ∷ name

-- the store key of a chunk of the array at a path
abbrev pub chunk_key : List ℕ → KeyEncoding → List ℕ → List ℕ
chunk_key path keys chunk = key_under path (encoded_key keys chunk)

-- whether a byte is a separator: a slash or a dot
abbrev pub is_separator : ℕ → Bool
is_separator byte = byte == 47 || byte == 46

-- whether the separator is a slash or a dot
abbrev pub has_separator : KeyEncoding → Bool
has_separator (default separator) = is_separator separator
has_separator (v2 separator) = is_separator separator
has_separator (suffixed separator suffix) = is_separator separator

-- whether the numbers of a key begin without a letter, so that a chunk of no dimension shares its key with one of one dimension
abbrev pub is_v2 : KeyEncoding → Bool
is_v2 (default separator) = false
is_v2 (v2 separator) = true
is_v2 (suffixed separator suffix) = false

-- whether a suffix holds no slash
abbrev pub has_flat_suffix : KeyEncoding → Bool
has_flat_suffix (default separator) = true
has_flat_suffix (v2 separator) = true
has_flat_suffix (suffixed separator suffix) = not (list_any (λ byte. byte == 47) suffix)
