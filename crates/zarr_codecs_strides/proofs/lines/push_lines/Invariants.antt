use Rattle.std.proofs.Common.{◌≡◌, ◌++◌, List, ℕ}
use Rattle.zarr_codecs_strides.specs.Strides.{column_of}
use Rattle.zarr_codecs_strides.proofs.lines.push_lines.Given as goal

-- the elements so far
abbrev pub invariant-loop-line : goal.invariant-loop-line
invariant-loop-line l = (before : List ℕ) → l.initial.out.items ≡ before ++ column_of l.lines.width l.lines.bytes.now l.lines.edge l.first l.column → l.out.items ≡ before ++ column_of l.lines.width l.lines.bytes.now l.lines.edge l.line l.column
