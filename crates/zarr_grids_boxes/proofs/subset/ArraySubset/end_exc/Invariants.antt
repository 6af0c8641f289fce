use Rattle.std.proofs.Common.{◌≡◌, ◌+◌, ◌++◌, length, drop}
use Rattle.zarr_grids_boxes.specs.Boxes.{each2}
use Rattle.zarr_grids_boxes.proofs.subset.ArraySubset.end_exc.Given as goal

abbrev pub invariant-loop-k : goal.invariant-loop-k
invariant-loop-k l = record {
  written : each2 (λ s e. s + e) l.self.start.items l.self.shape.items ≡ l.end.items ++ each2 (λ s e. s + e) (drop l.k l.self.start.items) (drop l.k l.self.shape.items);
  len : length l.end.items ≡ l.k;
}
