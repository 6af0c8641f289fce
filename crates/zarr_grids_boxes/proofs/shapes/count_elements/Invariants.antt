use Rattle.std.proofs.Common.{◌≡◌, ◌<◌, ◌*◌, ◌^◌, drop}
use Rattle.zarr_grids_boxes.specs.Boxes.{product}
use Rattle.zarr_grids_boxes.proofs.shapes.count_elements.Given as goal

abbrev pub invariant-loop-size : goal.invariant-loop-size
invariant-loop-size l = record {
  positive : 0 < product l.shape;
  small : l.count < 2 ^ 64;
  so_far : l.count * product (drop l.size-index l.shape) ≡ product l.shape;
}
