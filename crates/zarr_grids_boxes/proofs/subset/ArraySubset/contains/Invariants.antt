use Rattle.std.proofs.Common.{◌≡◌, drop}
use Rattle.zarr_grids_boxes.specs.Boxes.{is_in_box}
use Rattle.zarr_grids_boxes.proofs.subset.ArraySubset.contains.Given as goal

abbrev pub invariant-loop-k : goal.invariant-loop-k
invariant-loop-k l = is_in_box l.self.start.items l.self.shape.items l.indices ≡ is_in_box (drop l.k l.self.start.items) (drop l.k l.self.shape.items) (drop l.k l.indices)
