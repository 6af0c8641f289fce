use Rattle.std.proofs.Common.{◌≡◌, ◌≤◌, take}
use Rattle.zarr_codecs_sections.specs.Marks.{count_ones}
use Rattle.zarr_codecs_sections.proofs.masks.count_ones.Given as goal

-- the ones so far, no more than there are numbers
abbrev pub invariant-loop-mark : goal.invariant-loop-mark
invariant-loop-mark l = (l.count ≡ count_ones (take l.mark-index l.marks)) × (l.count ≤ l.mark-index)
