use Rattle.std.proofs.Common.{◌≡◌, ◌+◌, ◌*◌, ◌<◌, ◌^◌, drop}
use Rattle.zarr_grids_boxes.specs.Boxes.{product, place_at, ravel}
use Rattle.zarr_grids_boxes.proofs.linearised.number_at.Given as goal

abbrev pub invariant-loop-k : goal.invariant-loop-k
invariant-loop-k l = record {
  inner : l.inner ≡ product (drop l.k l.shape);
  rest : l.rest < product (drop l.k l.shape);
  small : l.number < 2 ^ 64;
  number : l.number * product (drop l.k l.array_shape) + ravel (place_at (drop l.k l.start) (drop l.k l.shape) l.rest) (drop l.k l.array_shape) ≡ ravel (place_at l.start l.shape l.n) l.array_shape;
}
