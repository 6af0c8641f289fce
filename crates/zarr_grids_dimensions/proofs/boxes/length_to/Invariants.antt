use Rattle.std.proofs.Common.{◌≡◌, ◌++◌, drop}
use Rattle.zarr_grids_dimensions.specs.Chunks.{lengths_to}
use Rattle.zarr_grids_dimensions.proofs.boxes.length_to.Given as goal

-- what is left goes on from what was found
abbrev pub invariant-loop-k : goal.invariant-loop-k
invariant-loop-k l = lengths_to l.firsts l.starts l.counts ≡ l.lengths.items ++ lengths_to (drop l.k l.firsts) (drop l.k l.starts) (drop l.k l.counts)
