use Rattle.std.proofs.Common.{◌≡◌, ◌++◌, drop, map, false}
use Rattle.std.specs.List.{list_any}
use Rattle.zarr_codecs_bytes.specs.Lines.{ends_after, moved_by}
use Rattle.zarr_codecs_bytes.proofs.lines.push_row.Given as goal

abbrev pub invariant-loop-range : goal.invariant-loop-range
invariant-loop-range l = record {
  so_far : l.ranges.items ++ map (moved_by l.offset) (drop l.range-index l.row.ranges.items) ≡ l.initial.ranges.items ++ map (moved_by l.offset) l.row.ranges.items;
  fits : list_any (ends_after l.row.size) (drop l.range-index l.row.ranges.items) ≡ false;
}
