-- The ranges of bytes in which elements stand.
use Rattle.std.specs.Prelude.{◌≡◌, ℕ, ◌+◌, ◌*◌, ◌^◌, ◌<◌, List, [], ◌∷◌, Bool, false, length, take, drop, flat_map, nat_le, nat_lt}
use Rattle.std.specs.List.{list_any, range_with_len}
use Rattle.zarr_grids_boxes.specs.Boxes.{product}
use Rattle.zarr_codecs_traits.specs.Indexers.{numbers_of}
use Rattle.zarr_codecs_traits.specs.Sources.{bytes_in_ranges}
use Rattle.zarr_codecs_traits.specs.declared.byte_range.ByteRange.{ByteRange}
use Rattle.zarr_codecs_bytes.specs.Parts.{HasPart, part_width}
use Rattle.zarr_codecs_bytes.specs.declared.part.BoxPart.{BoxPart}
use Rattle.zarr_codecs_bytes.specs.declared.lines.LineSizes.{LineSizes}
use Rattle.zarr_codecs_bytes.specs.declared.lines.PartRanges.{PartRanges}

-- so many bytes from each of the elements with these numbers on, each element of one width
abbrev pub bytes_of_lines : ℕ → ℕ → List ℕ → List ℕ → List ℕ
bytes_of_lines width line value numbers = flat_map (λ n. take line (drop (n * width) value)) numbers

-- whether a range ends after so many bytes
abbrev pub ends_after : ℕ → ByteRange → Bool
ends_after size range = nat_lt size (range.offset + range.length)

-- a range, so many bytes further on
abbrev pub moved_by : ℕ → ByteRange → ByteRange
moved_by count range = record { offset = count + range.offset; length = range.length }

-- how many bytes ranges have together
abbrev pub total_length : List ByteRange → ℕ
total_length [] = 0
total_length (range ∷ ranges) = range.length + total_length ranges

-- whether a line that starts at the element with this number ends in the value
abbrev pub line_ends_within : LineSizes → ℕ → Bool
line_ends_within sizes n = nat_le (n * sizes.width + sizes.line) sizes.value

-- the ranges in which the elements of a box stand, one after another, of the value of an array whose elements have one width
pub record AreBoxRanges (width : ℕ) (start region shape : List ℕ) (found : PartRanges) : Type 0 where
  pub size : found.size ≡ product shape * width
  pub within : list_any (ends_after found.size) found.ranges.items ≡ false
  pub are : (value : List ℕ) → bytes_in_ranges value found.ranges.items ≡ bytes_of_lines width width value (numbers_of shape (record { start = start; shape = region }))

-- of a value of so many rows, the ranges that are found of one of them, in each of `count` rows from `start` on
pub record AreRowsRanges (row : PartRanges) (start count rows : ℕ) (found : PartRanges) : Type 0 where
  pub size : found.size ≡ rows * row.size
  pub within : list_any (ends_after found.size) found.ranges.items ≡ false
  pub are : (value : List ℕ) → bytes_in_ranges value found.ranges.items ≡ flat_map (λ n. bytes_in_ranges (drop (n * row.size) value) row.ranges.items) (range_with_len start count)

-- the ranges of a value in which the elements of a part stand, one after another
pub record ArePartRanges (part : BoxPart) (found : PartRanges) : Type 0 where
  pub size : found.size ≡ product part.shape.now * part_width part
  pub small : found.size < 2 ^ 63
  pub within : list_any (ends_after found.size) found.ranges.items ≡ false
  pub are : (value : List ℕ) → length value ≡ found.size → HasPart part value (bytes_in_ranges value found.ranges.items)
