use Rattle.std.proofs.Common.{◌≡◌, ◌++◌, drop}
use Rattle.zarr_codecs_sections.specs.Marks.{chosen_bytes}
use Rattle.zarr_codecs_sections.proofs.choosing.chosen_bytes.Given as goal

-- the bytes so far, and those of what is left, are all
abbrev pub invariant-loop-mark : goal.invariant-loop-mark
invariant-loop-mark l = l.found.items ++ chosen_bytes l.width (drop l.mark-index l.marks) l.rest ≡ chosen_bytes l.width l.marks l.bytes
