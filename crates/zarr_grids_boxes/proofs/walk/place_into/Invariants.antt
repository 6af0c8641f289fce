use Rattle.std.proofs.Common.{◌≡◌, ◌<◌, ◌++◌, take, drop}
use Rattle.zarr_grids_boxes.specs.Boxes.{product, place_at}
use Rattle.zarr_grids_boxes.proofs.walk.place_into.Given as goal

abbrev pub invariant-loop-k : goal.invariant-loop-k
invariant-loop-k l = record {
  inner : l.inner ≡ product (drop l.k l.shape);
  rest : l.rest < product (drop l.k l.shape);
  written : place_at l.start l.shape l.n ≡ take l.k l.place ++ place_at (drop l.k l.start) (drop l.k l.shape) l.rest;
}
