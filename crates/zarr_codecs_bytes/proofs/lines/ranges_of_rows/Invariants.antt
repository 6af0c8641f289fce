use Rattle.std.proofs.Common.{◌≡◌}
use Rattle.std.specs.List.{flat_map, range_with_len}
use Rattle.zarr_codecs_bytes.proofs.BoxRanges.{row_ranges}
use Rattle.zarr_codecs_bytes.proofs.lines.ranges_of_rows.Given as goal

abbrev pub invariant-loop-n : goal.invariant-loop-n
invariant-loop-n l = l.ranges.items ≡ flat_map (row_ranges l.row) (range_with_len l.start l.n)
