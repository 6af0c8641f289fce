use Rattle.std.proofs.Common.{◌≡◌, ◌++◌}
use Rattle.std.specs.Prelude.{flat_map}
use Rattle.std.specs.List.{range_with_len}
use Rattle.zarr_codecs_strides.specs.Strides.{column_of}
use Rattle.zarr_codecs_strides.proofs.lines.push_columns.Given as goal

-- the columns so far
abbrev pub invariant-loop-column : goal.invariant-loop-column
invariant-loop-column l = l.out.items ≡ l.initial.out.items ++ flat_map (column_of l.lines.width l.lines.bytes.now l.lines.edge l.lines.count) (range_with_len 0 l.column)
