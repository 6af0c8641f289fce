use Rattle.std.proofs.Common.{◌≡◌, take}
use Rattle.std.specs.Prelude.{sum}
use Rattle.zarr_grids_dimensions.specs.RepeatedEdges.{expanded, counts}
use Rattle.zarr_grids_cover.proofs.LargestEdges.{LargestBefore}
use Rattle.zarr_grids_cover.proofs.sizes.largest_among.Given as goal

-- the largest edge of the chunks before the next repeat
abbrev pub invariant-loop-j : goal.invariant-loop-j
invariant-loop-j l = (l.next ≡ sum (take l.j (counts l.repeats))) × LargestBefore (expanded l.repeats) l.first l.last l.next l.largest
