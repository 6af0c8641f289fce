use Rattle.std.proofs.Common.{◌≡◌, ◌++◌, length, max, drop}
use Rattle.zarr_grids_boxes.specs.Boxes.{each2}
use Rattle.zarr_grids_boxes.proofs.cutting.larger_each.Given as goal

abbrev pub invariant-loop-k : goal.invariant-loop-k
invariant-loop-k l = record {
  written : each2 max l.xs l.ys ≡ l.larger.items ++ each2 max (drop l.k l.xs) (drop l.k l.ys);
  len : length l.larger.items ≡ l.k;
}
