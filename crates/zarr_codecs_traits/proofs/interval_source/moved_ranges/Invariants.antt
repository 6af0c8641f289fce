use Rattle.std.proofs.Common.{◌≡◌, ◌++◌, map, drop}
use Rattle.std.specs.List.{list_any}
use Rattle.zarr_codecs_traits.specs.Sources.{is_outside, moved_range}
use Rattle.zarr_codecs_traits.proofs.interval_source.moved_ranges.Given as goal

abbrev pub invariant-loop-range : goal.invariant-loop-range
invariant-loop-range l = record {
  so_far : l.moved.items ++ map (moved_range l.interval) (drop l.range-index l.ranges) ≡ map (moved_range l.interval) l.ranges;
  same : list_any (is_outside l.interval) l.ranges ≡ list_any (is_outside l.interval) (drop l.range-index l.ranges);
}
