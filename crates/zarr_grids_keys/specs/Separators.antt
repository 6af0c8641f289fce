-- Separators of chunk keys.
use Rattle.std.specs.Prelude.{ℕ, List}
use Rattle.zarr_grids_keys.specs.declared.separator.ChunkKeySeparator.{ChunkKeySeparator}
use Rattle.zarr_grids_keys.specs.declared.separator.ChunkKeySeparator.TheVariants.{Slash, Dot}
use Rattle.zarr_grids_keys.specs.Keys.{KeyEncoding, suffixed}

-- the byte of a separator: / or .
abbrev pub separator_byte : ChunkKeySeparator → ℕ
separator_byte Slash = 47
separator_byte Dot = 46

-- how a separator and a suffix make keys
abbrev pub suffix_keys : ChunkKeySeparator → List ℕ → KeyEncoding
suffix_keys separator suffix = suffixed (separator_byte separator) suffix
