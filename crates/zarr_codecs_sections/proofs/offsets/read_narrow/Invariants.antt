use Rattle.std.proofs.Common.{◌≡◌, ◌++◌, length}
use Rattle.zarr_codecs_meaning.specs.Payloads.{fixed_cells}
use Rattle.zarr_codecs_sections.specs.Outcomes.{offsets_read}
use Rattle.zarr_codecs_sections.proofs.offsets.read_narrow.Given as goal

-- the numbers so far, and those that are left, are all
abbrev pub invariant-loop-element : goal.invariant-loop-element
invariant-loop-element l = offsets_read (fixed_cells 4 l.bytes) ≡ l.numbers.items ++ offsets_read (fixed_cells 4 l.rest)

abbrev pub decreases-loop-element : goal.decreases-loop-element
decreases-loop-element l = length l.rest
