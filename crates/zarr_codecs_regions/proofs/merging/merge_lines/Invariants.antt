use Rattle.zarr_codecs_regions.specs.BoxLines.{line_numbers}
use Rattle.zarr_codecs_regions.specs.Taken.{IsMerged}
use Rattle.zarr_codecs_regions.proofs.merging.merge_lines.Given as goal

-- the lines so far are merged
abbrev pub invariant-loop-first : goal.invariant-loop-first
invariant-loop-first l = IsMerged l.both (line_numbers l.fn.lines.length l.yielded) l.merged
