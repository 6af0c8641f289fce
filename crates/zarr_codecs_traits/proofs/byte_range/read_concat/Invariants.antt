use Rattle.std.proofs.Common.{◌≡◌, ◌++◌, drop, false}
use Rattle.std.specs.List.{list_any}
use Rattle.zarr_codecs_traits.specs.Sources.{bytes_in_ranges, ends_past}
use Rattle.zarr_codecs_traits.proofs.byte_range.read_concat.Given as goal

abbrev pub invariant-loop-range : goal.invariant-loop-range
invariant-loop-range l = record {
  so_far : l.bytes.items ++ bytes_in_ranges l.value (drop l.range-index l.ranges) ≡ bytes_in_ranges l.value l.ranges;
  fits : list_any (ends_past l.value) (drop l.range-index l.ranges) ≡ false;
}
