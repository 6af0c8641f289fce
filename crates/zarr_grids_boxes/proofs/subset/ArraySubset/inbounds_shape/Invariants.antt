use Rattle.std.proofs.Common.{ℕ, ◌+◌, ◌<◌, ◌≤◌, get_or}
use Rattle.zarr_grids_boxes.proofs.subset.ArraySubset.inbounds_shape.Given as goal

abbrev pub invariant-loop-k : goal.invariant-loop-k
invariant-loop-k l = (j : ℕ) → j < l.k → get_or l.self.start.items j 0 + get_or l.self.shape.items j 0 ≤ get_or l.array_shape j 0
