use Rattle.std.proofs.Common.{◌≡◌, ◌*◌, ◌++◌}
use Rattle.zarr_codecs_strides.specs.Strides.{column_of}
use Rattle.zarr_codecs_strides.proofs.lines.push_cells.Given as goal

-- the elements so far
abbrev pub invariant-loop-eight : goal.invariant-loop-eight
invariant-loop-eight g l = l.out.items ≡ l.initial.out.items ++ column_of l.lines.width l.lines.bytes.now l.lines.edge (8 * l.eight) l.column
