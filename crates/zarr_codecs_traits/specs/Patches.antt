-- Ranges of the bytes of a value, to be written.
use Rattle.std.specs.Prelude.{ℕ, ◌+◌, ◌-◌, ◌^◌, List, [], ◌∷◌, ◌++◌, length, map, take, drop, replicate, Bool, nat_lt, Option, unwrap_or}
use Rattle.std.specs.List.{list_any}
use Rattle.zarr_codecs_traits.specs.declared.byte_range.ByteRange.{ByteRange}
use Rattle.zarr_codecs_traits.specs.declared.value_patch.ValuePatch.{ValuePatch}
use Rattle.zarr_codecs_traits.specs.declared.value_patch.ValuePatches.{ValuePatches}

-- bytes to be written into a value from an offset on
pub record Patch : Type 0 where
  pub offset : ℕ
  pub bytes : List ℕ

-- what a range to write is, wherever its bytes stand
abbrev pub patch_of : ValuePatch → Patch
patch_of patch = record { offset = patch.offset; bytes = patch.bytes.now }

-- what ranges to write are
abbrev pub patches_of : List ValuePatch → List Patch
patches_of patches = map patch_of patches

-- bytes, cut into as many as each range has, each to be written where its range begins
abbrev pub cut_patches : List ByteRange → List ℕ → List Patch
cut_patches [] bytes = []
cut_patches (range ∷ ranges) bytes = record { offset = range.offset; bytes = take range.length bytes } ∷ cut_patches ranges (drop range.length bytes)

-- what ranges to write are, of which one value has the bytes
abbrev pub patches_in : ValuePatches → List Patch
patches_in patches = cut_patches patches.ranges.items patches.bytes.items

-- a value, with zeros put to its end until it has n bytes
abbrev pub extended : List ℕ → ℕ → List ℕ
extended value n = value ++ replicate (n - length value) 0

-- a value with other bytes from an offset on
abbrev pub overwritten : List ℕ → ℕ → List ℕ → List ℕ
overwritten value offset bytes = take offset value ++ bytes ++ drop (offset + length bytes) value

-- a value with bytes written from an offset on, and zeros in the gap before them
abbrev pub written_at : List ℕ → ℕ → List ℕ → List ℕ
written_at value offset bytes = overwritten (extended value (offset + length bytes)) offset bytes

-- a value with several ranges written, one after another
abbrev pub patched : List ℕ → List Patch → List ℕ
patched value [] = value
patched value (patch ∷ rest) = patched (written_at value patch.offset patch.bytes) rest

-- whether a range to write ends past 2^63 - 1 bytes, where the longest value ends
abbrev pub is_too_far : Patch → Bool
is_too_far patch = nat_lt (2 ^ 63 - 1) (patch.offset + length patch.bytes)

-- whether one of the ranges to write ends past 2^63 - 1 bytes
abbrev pub any_too_far : List Patch → Bool
any_too_far patches = list_any is_too_far patches

-- what a value is after several ranges were written into it; no value counts as empty
abbrev pub patched_contents : Option (List ℕ) → List Patch → List ℕ
patched_contents contents patches = patched (unwrap_or contents []) patches

-- whether a range to write ends past the end of a value of so many bytes
abbrev pub ends_past : ℕ → Patch → Bool
ends_past len patch = nat_lt len (patch.offset + length patch.bytes)

-- whether one of the ranges to write ends past the end of a value of so many bytes
abbrev pub any_ends_past : ℕ → List Patch → Bool
any_ends_past len patches = list_any (ends_past len) patches
