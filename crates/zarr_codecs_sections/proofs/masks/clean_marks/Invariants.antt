use Rattle.std.proofs.Common.{◌≡◌, ◌++◌, drop, map, take}
use Rattle.zarr_codecs_sections.specs.Marks.{mark_of}
use Rattle.zarr_codecs_sections.proofs.masks.clean_marks.Given as goal

-- the marks so far, and the numbers that are left
abbrev pub invariant-loop-mark : goal.invariant-loop-mark
invariant-loop-mark l = l.mark-items ≡ map mark_of (take l.mark-index l.numbers) ++ drop l.mark-index l.numbers
