use Rattle.std.proofs.Common.{◌≡◌, ◌+◌, ◌-◌, ◌<◌, ◌++◌, map, drop}
use Rattle.zarr_grids_boxes.specs.Boxes.{product, each2}
use Rattle.zarr_grids_boxes.proofs.subset.ArraySubset.end_inc.Given as goal

abbrev pub invariant-loop-k : goal.invariant-loop-k
invariant-loop-k l = record {
  positive : 0 < product l.self.shape.items;
  last : map (λ n. n - 1) (each2 (λ s e. s + e) l.self.start.items l.self.shape.items) ≡ l.end.items ++ map (λ n. n - 1) (each2 (λ s e. s + e) (drop l.k l.self.start.items) (drop l.k l.self.shape.items));
}
