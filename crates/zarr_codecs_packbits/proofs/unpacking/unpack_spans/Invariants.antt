use Rattle.std.proofs.Common.{◌≡◌, ℕ, List, take, drop, true}
use Rattle.std.specs.List.{list_all}
use Rattle.zarr_codecs_traits.specs.Sources.{bytes_in_ranges}
use Rattle.zarr_codecs_packbits.specs.Parts.{unpacked_bytes}
use Rattle.zarr_codecs_packbits.specs.Spans.{ends_within, spans_numbers}
use Rattle.zarr_codecs_packbits.proofs.unpacking.unpack_spans.Given as goal

-- the bytes that are left, and the elements so far
abbrev pub invariant-loop-index : goal.invariant-loop-index
invariant-loop-index l = (value : List ℕ) → list_all (ends_within l.packed.bits value) l.asked.spans.items ≡ true → l.bytes ≡ bytes_in_ranges value l.asked.ranges.items
    → (l.rest ≡ bytes_in_ranges value (drop l.index l.asked.ranges.items)) × (l.made.bytes.items ≡ unpacked_bytes l.packed value (spans_numbers (take l.index l.asked.spans.items)))
