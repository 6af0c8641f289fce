use Rattle.std.proofs.Common.{◌≡◌, ◌-◌, ◌*◌, ◌^◌, ◌<◌, min, drop}
use Rattle.zarr_grids_boxes.specs.Boxes.{product}
use Rattle.zarr_grids_dimensions.specs.Dimensions.{grid_of}
use Rattle.zarr_grids_cover.specs.Sizes.{largest_edges}
use Rattle.zarr_grids_cover.proofs.sizes.most_places.Given as goal

-- what is left multiplies what was found
abbrev pub invariant-loop-k : goal.invariant-loop-k
invariant-loop-k l = record {
  whole : min (product (largest_edges (grid_of l.grid) l.start l.shape)) (2 ^ 64 - 1) ≡ min (l.most * product (drop l.k (largest_edges (grid_of l.grid) l.start l.shape))) (2 ^ 64 - 1);
  fits : l.most < 2 ^ 64;
}
