-- The elements that are asked for of a packed array.
use Rattle.std.specs.Prelude.{◌≡◌, ◌≤◌, ◌<◌, ◌^◌, ℕ, List, Option, Result, Vec, unwrap_or, MatchOption}
use Rattle.std.specs.List.{flat_map}
use Rattle.std.specs.declared.alloc.Global.{Global}
use Rattle.zarr_grids_boxes.specs.Boxes.{product}
use Rattle.zarr_codecs_meaning.specs.Fits.{bits_in, packed_size}
use Rattle.zarr_codecs_meaning.specs.Types.{IsTooLarge}
use Rattle.zarr_codecs_types.specs.Views.{components_of}
use Rattle.zarr_codecs_arrays.specs.Views.{elements_of}
use Rattle.zarr_codecs_arrays.specs.declared.array_bytes.ArrayBytes.{ArrayBytes}
use Rattle.zarr_codecs_arrays.specs.declared.error.CodecError.{CodecError}
use Rattle.zarr_codecs_arrays.specs.declared.error.CodecError.TheVariants as error
use Rattle.zarr_codecs_traits.specs.Indexers.{asked_of, numbers_asked}
use Rattle.zarr_codecs_traits.specs.Arrays.{coded}
use Rattle.zarr_codecs_traits.specs.Outcomes.{DecodesPart}
use Rattle.zarr_codecs_traits.specs.ReadBytes.{most_read}
use Rattle.zarr_codecs_packbits.specs.Packing.{element_in}
use Rattle.zarr_codecs_packbits.specs.Spans.{AreSpans, span_ranges, total_length}
use Rattle.zarr_codecs_packbits.specs.Turning.{bits_of}
use Rattle.zarr_codecs_packbits.specs.Views.{packbits_chain, padding_of}
use Rattle.zarr_codecs_packbits.specs.declared.part.PackedPart.{PackedPart}
use Rattle.zarr_codecs_packbits.specs.declared.part.PackedBits.{PackedBits}
use Rattle.zarr_codecs_packbits.specs.declared.spans.SpanRanges.{SpanRanges}

-- the elements that are asked for, of what is stored, or why there are none
abbrev pub GivesPacked : Option (List ℕ) → PackedPart → Result ArrayBytes CodecError → Type 0
GivesPacked stored packed result = DecodesPart (coded (packbits_chain packed.codec) (elements_of packed.part.elements.now) packed.part.shape.now) stored (asked_of packed.part.indexer) result

-- how many bytes are taken at most of what is stored, for the elements that are asked for
abbrev pub most_of_packed : Option (List ℕ) → PackedPart → ℕ
most_of_packed stored packed = most_read (packbits_chain packed.codec) (elements_of packed.part.elements.now).type packed.part.shape.now stored (asked_of packed.part.indexer)

-- the numbers of the elements that are asked for
abbrev pub numbers_of_packed : PackedPart → List ℕ
numbers_of_packed packed = numbers_asked packed.part.shape.now (asked_of packed.part.indexer)

-- how many bytes the array is packed to
abbrev pub size_of_packed : PackedPart → ℕ
size_of_packed packed = packed_size (padding_of packed.codec.padding) (unwrap_or packed.codec.first_bit 0) packed.codec.last_bit (components_of packed.components.now) (product packed.part.shape.now)

-- how many bits are kept of an element
abbrev pub bits_of_packed : PackedPart → ℕ
bits_of_packed packed = bits_in (unwrap_or packed.codec.first_bit 0) packed.codec.last_bit (components_of packed.components.now)

-- the bytes of the elements with these numbers, of a value without a padding byte
abbrev pub unpacked_bytes : PackedBits → List ℕ → List ℕ → List ℕ
unpacked_bytes packed value numbers = flat_map (element_in (unwrap_or packed.codec.first_bit 0) packed.codec.last_bit (components_of packed.components.now) (bits_of value)) numbers

-- bytes were found, those of the elements with these numbers
abbrev pub IsUnpacked : PackedBits → List ℕ → List ℕ → Option (Vec ℕ Global) → Type 0
IsUnpacked packed value numbers found = MatchOption found ⊥ (λ made. made.items ≡ unpacked_bytes packed value numbers)

-- spans of the elements that are asked for, and the ranges that their bits touch, which have no more bytes than the array is packed to
pub record AreAsked (packed : PackedPart) (found : SpanRanges) : Type 0 where
  pub spans : AreSpans (numbers_of_packed packed) found.spans.items
  pub ranges : found.ranges.items ≡ span_ranges (bits_of_packed packed) found.spans.items
  pub few : total_length found.ranges.items ≤ size_of_packed packed

-- why a value of so many bytes is not read, of an array that is packed to 2^63 or more: it has fewer, or the array's elements are too many
abbrev pub IsUnreadable : PackedPart → ℕ → CodecError → Type 0
IsUnreadable packed total error.Damage = total < 2 ^ 63
IsUnreadable packed total error.Size = IsTooLarge (elements_of packed.part.elements.now).type (product packed.part.shape.now)
IsUnreadable packed total error.Memory = Unit {0}
IsUnreadable packed total e = ⊥
