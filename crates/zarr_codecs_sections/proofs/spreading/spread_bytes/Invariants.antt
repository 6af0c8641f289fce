use Rattle.std.proofs.Common.{◌≡◌, ◌++◌, drop}
use Rattle.zarr_codecs_sections.specs.Marks.{spread_bytes}
use Rattle.zarr_codecs_sections.proofs.spreading.spread_bytes.Given as goal

-- the bytes so far, and those of what is left, are all
abbrev pub invariant-loop-mark : goal.invariant-loop-mark
invariant-loop-mark l = l.spread.items ++ spread_bytes l.width (drop l.mark-index l.marks) l.rest ≡ spread_bytes l.width l.marks l.bytes
