-- Ranges of the bytes of a value, to be read or written.
use Rattle.std.specs.Prelude.{ℕ, List, Option, Bool}
use Rattle.std.specs.FinMap.{get}
use Rattle.zarr_array_meaning.specs.StoreMaps.{StoreMap}
use Rattle.zarr_codecs_traits.specs.Sources as source
use Rattle.zarr_codecs_traits.specs.Patches.{Patch, patched_contents}
use Rattle.zarr_codecs_traits.specs.declared.byte_range.ByteRange.{ByteRange}

-- the bytes of the value at a key in each of the ranges, or none where it has no value
abbrev pub parts_at : StoreMap → List ℕ → List ByteRange → Option (List (List ℕ))
parts_at held key ranges = source.parts_of (get held key) ranges

-- whether one of the ranges ends past the end of the value at a key
abbrev pub any_past_end : StoreMap → List ℕ → List ByteRange → Bool
any_past_end held key ranges = source.any_past_end (get held key) ranges

-- the value at a key with several ranges written; no value counts as empty
abbrev pub patched_at : StoreMap → List ℕ → List Patch → List ℕ
patched_at held key patches = patched_contents (get held key) patches
