-- Elements with consecutive numbers, and the bytes that their bits touch.
use Rattle.std.specs.Prelude.{◌≡◌, ◌<◌, ℕ, ◌+◌, ◌-◌, ◌*◌, ◌/◌, List, [], ◌++◌, Option, None, Some, map, length, Bool, true, nat_le, nat_lt, sum_by}
use Rattle.std.specs.List.{flat_map, list_all, range_with_len}
use Rattle.zarr_codecs_traits.specs.ReadBytes.{bytes_touched}
use Rattle.zarr_codecs_traits.specs.declared.byte_range.ByteRange.{ByteRange}
use Rattle.zarr_codecs_packbits.specs.declared.spans.Span.{Span}

-- the numbers of the elements of a span
abbrev pub span_numbers : Span → List ℕ
span_numbers span = range_with_len span.start span.count

-- the numbers of the elements of spans, in their order
abbrev pub spans_numbers : List Span → List ℕ
spans_numbers spans = flat_map span_numbers spans

-- the bytes of a value that the bits of a span touch, so many for each element
abbrev pub span_range : ℕ → Span → ByteRange
span_range bits span = record { offset = span.start * bits / 8; length = ((span.start + span.count) * bits + 7) / 8 - span.start * bits / 8 }

-- how many bytes ranges have together
abbrev pub total_length : List ByteRange → ℕ
total_length ranges = sum_by (λ (range : ByteRange). range.length) ranges

-- the ranges of a value that the bits of spans touch
abbrev pub span_ranges : ℕ → List Span → List ByteRange
span_ranges bits spans = map (span_range bits) spans

-- whether the bits of a span end within a value, so many for each element
abbrev pub ends_within : ℕ → List ℕ → Span → Bool
ends_within bits value span = nat_le ((span.start + span.count) * bits) (8 * length value)

-- spans of the elements with these numbers, which touch no byte twice that these don't
pub record AreSpans (numbers : List ℕ) (spans : List Span) : Type 0 where
  pub are : spans_numbers spans ≡ numbers
  pub some : list_all (λ (span : Span). nat_lt 0 span.count) spans ≡ true
  pub touched : (bits : ℕ) → total_length (span_ranges bits spans) ≡ bytes_touched bits 0 numbers

-- spans and the one that is still open are those of the elements with these numbers, and touch no byte twice that these don't
pub record AreSoFar (numbers : List ℕ) (spans : List Span) (last : Span) : Type 0 where
  pub are : spans_numbers spans ++ span_numbers last ≡ numbers
  pub some : list_all (λ (span : Span). nat_lt 0 span.count) spans ≡ true
  pub last_some : 0 < last.count
  pub touched : (bits : ℕ) (rest : List ℕ) → total_length (span_ranges bits spans) + (span_range bits last).length + bytes_touched bits (last.start + last.count) rest ≡ bytes_touched bits 0 (numbers ++ rest)

-- no element was met yet, or a span is open
abbrev pub IsOpen : List ℕ → List Span → Option Span → Type 0
IsOpen numbers spans None = (numbers ≡ []) × (spans ≡ [])
IsOpen numbers spans (Some last) = AreSoFar numbers spans last
