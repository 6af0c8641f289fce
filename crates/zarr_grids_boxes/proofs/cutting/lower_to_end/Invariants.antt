use Rattle.std.proofs.Common.{◌≡◌, ◌+◌, ◌++◌, length, min, take, drop}
use Rattle.zarr_grids_boxes.specs.Boxes.{each2}
use Rattle.zarr_grids_boxes.proofs.cutting.lower_to_end.Given as goal

abbrev pub invariant-loop-k : goal.invariant-loop-k
invariant-loop-k l = record {
  len : length l.xs.items ≡ length l.fn.xs.items;
  todo : drop l.k l.xs.items ≡ drop l.k l.fn.xs.items;
  written : each2 min l.fn.xs.items (each2 (λ s e. s + e) l.subset.start.items l.subset.shape.items) ≡ take l.k l.xs.items ++ each2 min (drop l.k l.fn.xs.items) (each2 (λ s e. s + e) (drop l.k l.subset.start.items) (drop l.k l.subset.shape.items));
}
