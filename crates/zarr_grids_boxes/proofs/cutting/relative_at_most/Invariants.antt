use Rattle.std.proofs.Common.{◌≡◌, ℕ, ◌+◌, ◌-◌, ◌<◌, ◌^◌, ◌++◌, length, get_or, drop}
use Rattle.zarr_grids_boxes.specs.Boxes.{each2}
use Rattle.zarr_grids_boxes.proofs.cutting.relative_at_most.Given as goal

abbrev pub invariant-loop-k : goal.invariant-loop-k
invariant-loop-k l = record {
  start : each2 (λ s o. s - o) l.subset.start.items l.offset ≡ l.start.items ++ each2 (λ s o. s - o) (drop l.k l.subset.start.items) (drop l.k l.offset);
  len : length l.start.items ≡ l.k;
  fit : (j : ℕ) → j < l.k → get_or l.start.items j 0 + get_or l.subset.shape.items j 0 < 2 ^ 64;
}
