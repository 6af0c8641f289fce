use Rattle.std.proofs.Common.{◌≡◌, ◌<◌, drop, reverse}
use Rattle.zarr_grids_boxes.specs.Boxes.{product}
use Rattle.zarr_sharding_places.specs.Locating.{axes_of}
use Rattle.zarr_sharding_places.proofs.locating.list_axes.Given as goal

-- the dimensions from this one on are counted, and stand last first
abbrev pub invariant-loop-k : goal.invariant-loop-k
invariant-loop-k l = record {
  some : 0 < l.k;
  listed : l.axes.items ≡ reverse (axes_of (drop l.k l.shape) (drop l.k l.edges) (drop l.k l.grid));
  places : l.places ≡ product (drop l.k l.shape);
  subchunks : l.subchunks ≡ product (drop l.k l.grid);
}
