use Rattle.std.proofs.Common.{◌≡◌, ◌+◌, ◌*◌, ◌<◌, ◌^◌, drop}
use Rattle.zarr_grids_boxes.specs.Boxes.{product, ravel}
use Rattle.zarr_grids_boxes.proofs.ravel.ravel_below.Given as goal

abbrev pub invariant-loop-k : goal.invariant-loop-k
invariant-loop-k l = record {
  small : l.number < 2 ^ 64;
  so_far : l.number * product (drop l.k l.shape) + ravel (drop l.k l.indices) (drop l.k l.shape) ≡ ravel l.indices l.shape;
}
