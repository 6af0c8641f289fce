use Rattle.std.proofs.Common.{◌+◌, ◌<◌, ◌≤◌, length, slice_index}
use Rattle.std.specs.List.Sorted.{IsNonDecreasing}
use Rattle.zarr_grids_dimensions.proofs.search.last_at_most.Given as goal

-- the start at `low` is at most the value, and of ordered starts the one `left` after it, if there is one, is more
abbrev pub invariant-loop-left : goal.invariant-loop-left
invariant-loop-left l = record {
  some : 0 < l.left;
  within : l.low + l.left ≤ length l.starts;
  at_most : slice_index l.starts l.low ≤ l.value;
  more : IsNonDecreasing l.starts → l.low + l.left < length l.starts → l.value < slice_index l.starts (l.low + l.left);
}

abbrev pub decreases-loop-left : goal.decreases-loop-left
decreases-loop-left l = l.left
