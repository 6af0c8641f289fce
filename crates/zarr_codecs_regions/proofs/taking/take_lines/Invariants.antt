use Rattle.zarr_codecs_regions.specs.BoxLines.{line_numbers}
use Rattle.zarr_codecs_regions.specs.Taken.{IsTaken, pieces_at}
use Rattle.zarr_codecs_regions.proofs.taking.take_lines.Given as goal

-- the lines so far are taken
abbrev pub invariant-loop-first : goal.invariant-loop-first
invariant-loop-first l = IsTaken (pieces_at l.from (line_numbers l.fn.lines.length l.yielded)) l.taken
