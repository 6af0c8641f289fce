use Rattle.std.proofs.Common.{ℕ, ◌<◌, get_or}
use Rattle.zarr_grids_boxes.proofs.walk.has_no_place.Given as goal

abbrev pub invariant-loop-size : goal.invariant-loop-size
invariant-loop-size l = (j : ℕ) → j < l.size-index → 0 < get_or l.shape j 0
