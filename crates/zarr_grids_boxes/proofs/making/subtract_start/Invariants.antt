use Rattle.std.proofs.Common.{◌≡◌, ℕ, ◌+◌, ◌-◌, ◌<◌, ◌^◌, ◌++◌, length, get_or, take, drop}
use Rattle.zarr_grids_boxes.specs.Boxes.{each2}
use Rattle.zarr_grids_boxes.proofs.making.subtract_start.Given as goal

abbrev pub invariant-loop-k : goal.invariant-loop-k
invariant-loop-k l = record {
  todo : drop l.k l.end.items ≡ drop l.k l.fn.end.items;
  written : each2 (λ s e. e - s) l.start l.fn.end.items ≡ take l.k l.end.items ++ each2 (λ s e. e - s) (drop l.k l.start) (drop l.k l.fn.end.items);
  len : length l.end.items ≡ length l.start;
  fit : (j : ℕ) → j < l.k → get_or l.start j 0 + get_or l.end.items j 0 < 2 ^ 64;
}
