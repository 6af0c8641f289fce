use Rattle.std.proofs.Common.{◌≡◌, ℕ, ◌-◌, ◌≤◌, ◌++◌, length, get_or, take, drop}
use Rattle.zarr_grids_boxes.specs.Boxes.{each2}
use Rattle.zarr_array_core.proofs.moving.lowered_by.Given as goal

abbrev pub invariant-loop-k : goal.invariant-loop-k
invariant-loop-k l = record {
  todo : drop l.k l.numbers.items ≡ drop l.k l.fn.numbers.items;
  written : each2 (λ s o. s - o) l.fn.numbers.items l.others ≡ take l.k l.numbers.items ++ each2 (λ s o. s - o) (drop l.k l.fn.numbers.items) (drop l.k l.others);
  len : length l.numbers.items ≡ length l.fn.numbers.items;
  same : (j : ℕ) → l.k ≤ j → get_or l.numbers.items j 0 ≡ get_or l.fn.numbers.items j 0;
  low : (j : ℕ) → get_or l.numbers.items j 0 ≤ get_or l.fn.numbers.items j 0;
}
