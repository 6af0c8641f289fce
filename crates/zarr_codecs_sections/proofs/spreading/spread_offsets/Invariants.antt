use Rattle.std.proofs.Common.{◌≡◌, ◌++◌, drop}
use Rattle.zarr_codecs_sections.specs.Marks.{spread_ends, spread_offsets}
use Rattle.zarr_codecs_sections.proofs.spreading.spread_offsets.Given as goal

-- the offsets so far, and those of what is left, are all
abbrev pub invariant-loop-mark : goal.invariant-loop-mark
invariant-loop-mark l = l.spread.items ++ spread_ends (drop l.mark-index l.marks) l.start l.rest ≡ spread_offsets l.marks l.offsets
