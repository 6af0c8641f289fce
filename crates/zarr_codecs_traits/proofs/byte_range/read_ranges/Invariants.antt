use Rattle.std.proofs.Common.{◌≡◌, ◌++◌, drop, map, false}
use Rattle.std.specs.List.{list_any}
use Rattle.zarr_codecs_traits.specs.Sources.{bytes_at, ends_past, part_bytes}
use Rattle.zarr_codecs_traits.proofs.byte_range.read_ranges.Given as goal

abbrev pub invariant-loop-range : goal.invariant-loop-range
invariant-loop-range l = record {
  so_far : part_bytes l.parts.items ++ map (bytes_at l.value) (drop l.range-index l.ranges) ≡ map (bytes_at l.value) l.ranges;
  fits : list_any (ends_past l.value) (drop l.range-index l.ranges) ≡ false;
}
