use Rattle.std.proofs.Common.{◌≡◌, ◌≤◌, ◌+◌, ◌-◌, ◌^◌, drop, min, sum_by}
use Rattle.zarr_codecs_traits.specs.declared.byte_range.ByteRange.{ByteRange}
use Rattle.zarr_codecs_traits.proofs.byte_range.count_in_ranges.Given as goal

abbrev pub invariant-loop-range : goal.invariant-loop-range
invariant-loop-range l = record {
  same : min (sum_by (λ (range : ByteRange). range.length) l.ranges) (2 ^ 64 - 1) ≡ min (l.count + sum_by (λ (range : ByteRange). range.length) (drop l.range-index l.ranges)) (2 ^ 64 - 1);
  fits : l.count ≤ 2 ^ 64 - 1;
}
