use Rattle.std.proofs.Common.{◌≡◌, ◌++◌, drop}
use Rattle.zarr_codecs_sections.specs.Marks.{chosen}
use Rattle.zarr_codecs_sections.proofs.splitting.chosen_numbers.Given as goal

-- the numbers so far, and those of what is left, are all
abbrev pub invariant-loop-mark : goal.invariant-loop-mark
invariant-loop-mark l = l.found.items ++ chosen (drop l.mark-index l.marks) l.rest ≡ chosen l.marks l.numbers
