use Rattle.std.proofs.Common.{◌≡◌, ◌+◌, ◌-◌, true, drop}
use Rattle.zarr_grids_boxes.specs.Boxes.{product, ravel, each2, is_in_box}
use Rattle.zarr_grids_boxes.proofs.indices.step.Given as goal

-- what stands in front is to be raised by one
abbrev pub invariant-loop-k : goal.invariant-loop-k
invariant-loop-k l = record {
  within : is_in_box l.start l.shape l.place.items ≡ true;
  number : ravel (each2 (λ p s. p - s) l.place.items l.start) l.shape + product (drop l.k l.shape) ≡ ravel (each2 (λ p s. p - s) l.fn.place.items l.start) l.shape + 1;
}
