use Rattle.std.proofs.Common.{ℕ, ◌<◌, get_or}
use Rattle.zarr_grids_boxes.proofs.ravel.is_index.Given as goal

abbrev pub invariant-loop-k : goal.invariant-loop-k
invariant-loop-k l = (j : ℕ) → j < l.k → get_or l.indices j 0 < get_or l.shape j 0
