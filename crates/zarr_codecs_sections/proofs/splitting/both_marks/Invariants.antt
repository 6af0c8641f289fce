use Rattle.std.proofs.Common.{◌≡◌, ◌++◌, drop}
use Rattle.zarr_codecs_sections.specs.Marks.{both_marks}
use Rattle.zarr_codecs_sections.proofs.splitting.both_marks.Given as goal

-- the marks so far, and those of what is left, are all
abbrev pub invariant-loop-mark : goal.invariant-loop-mark
invariant-loop-mark l = l.both.items ++ both_marks (drop l.mark-index l.marks) l.rest ≡ both_marks l.marks l.numbers
