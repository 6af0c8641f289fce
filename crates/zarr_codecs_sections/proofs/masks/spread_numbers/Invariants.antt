use Rattle.std.proofs.Common.{◌≡◌, ◌++◌, drop}
use Rattle.zarr_codecs_sections.specs.Marks.{spread_marks}
use Rattle.zarr_codecs_sections.proofs.masks.spread_numbers.Given as goal

-- the marks so far, and those of what is left, are all
abbrev pub invariant-loop-mark : goal.invariant-loop-mark
invariant-loop-mark l = l.marks.items ++ spread_marks (drop l.mark-index l.outer) l.rest ≡ spread_marks l.outer l.numbers
