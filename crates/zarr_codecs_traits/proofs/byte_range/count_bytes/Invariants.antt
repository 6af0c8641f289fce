use Rattle.std.proofs.Common.{◌≡◌, ◌≤◌, ◌+◌, ◌-◌, ◌^◌, drop, length, min, sum_by}
use Rattle.zarr_codecs_traits.specs.Sources.{part_bytes}
use Rattle.zarr_codecs_traits.proofs.byte_range.count_bytes.Given as goal

abbrev pub invariant-loop-part : goal.invariant-loop-part
invariant-loop-part l = record {
  same : min (sum_by length (part_bytes l.parts)) (2 ^ 64 - 1) ≡ min (l.count + sum_by length (part_bytes (drop l.part-index l.parts))) (2 ^ 64 - 1);
  fits : l.count ≤ 2 ^ 64 - 1;
}
