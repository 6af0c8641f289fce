use Rattle.std.proofs.Common.{◌≡◌, ℕ, ◌≤◌, ◌++◌, length, get_or, take, drop}
use Rattle.zarr_grids_dimensions.specs.Chunks.{counts_to}
use Rattle.zarr_grids_dimensions.proofs.boxes.count_to.Given as goal

-- what is left goes on from what was found
abbrev pub invariant-loop-k : goal.invariant-loop-k
invariant-loop-k l = record {
  todo : drop l.k l.lasts.items ≡ drop l.k l.fn.lasts.items;
  written : counts_to l.firsts l.fn.lasts.items ≡ take l.k l.lasts.items ++ counts_to (drop l.k l.firsts) (drop l.k l.fn.lasts.items);
  len : length l.lasts.items ≡ length l.fn.lasts.items;
  same : (j : ℕ) → l.k ≤ j → get_or l.lasts.items j 0 ≡ get_or l.fn.lasts.items j 0;
}
