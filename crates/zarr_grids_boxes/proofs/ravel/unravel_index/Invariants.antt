use Rattle.std.proofs.Common.{◌≡◌, ◌/◌, ◌%◌, ◌<◌, length, drop}
use Rattle.zarr_grids_boxes.specs.Boxes.{product}
use Rattle.zarr_grids_boxes.specs.Walks.{unravel}
use Rattle.zarr_grids_boxes.proofs.ravel.unravel_index.Given as goal

abbrev pub invariant-loop-k : goal.invariant-loop-k
invariant-loop-k l = record {
  positive : 0 < product l.shape;
  len : length l.indices.items ≡ length l.shape;
  rest : l.rest ≡ l.index / product (drop l.k l.shape);
  written : drop l.k l.indices.items ≡ unravel (drop l.k l.shape) (l.index % product (drop l.k l.shape));
}
