-- Elements that are written over others, in a value that stands.
use Rattle.std.specs.Prelude.{◌≡◌, ℕ, ◌*◌, List, length, false, sum_by}
use Rattle.std.specs.List.{list_any}
use Rattle.zarr_codecs_meaning.specs.Payloads.{fixed_cells}
use Rattle.zarr_codecs_traits.specs.Indexers.{put}
use Rattle.zarr_codecs_traits.specs.Patches.{Patch, any_too_far, patched}
use Rattle.zarr_codecs_traits.specs.declared.byte_range.ByteRange.{ByteRange}
use Rattle.zarr_codecs_traits.specs.Sources.{bytes_in_ranges}
use Rattle.zarr_codecs_bytes.specs.Lines.{bytes_of_lines, ends_after}

-- ranges of a value of so many bytes have the bytes of the elements with these numbers, in their order
pub record AreRangesOf (width size : ℕ) (numbers : List ℕ) (ranges : List ByteRange) : Type 0 where
  pub within : list_any (ends_after size) ranges ≡ false
  pub are : (value : List ℕ) → length value ≡ size → bytes_in_ranges value ranges ≡ bytes_of_lines width width value numbers

-- how many bytes patches write
abbrev pub bytes_written : List Patch → ℕ
bytes_written patches = sum_by (λ (patch : Patch). length patch.bytes) patches

-- patches put elements, which have these bytes, in the place of those with these numbers, in any value of so many bytes; they write the bytes of these elements alone
pub record PutsElements (width size : ℕ) (numbers content : List ℕ) (patches : List Patch) : Type 0 where
  pub near : any_too_far patches ≡ false
  pub few : bytes_written patches ≡ length numbers * width
  pub long : (value : List ℕ) → length value ≡ size → length (patched value patches) ≡ size
  pub put : (value : List ℕ) → length value ≡ size → fixed_cells width (patched value patches) ≡ put numbers (fixed_cells width content) (fixed_cells width value)
