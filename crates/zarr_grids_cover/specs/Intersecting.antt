-- The chunks that a box of places intersects, as a box of chunk indices.
use Rattle.std.specs.Prelude.{◌≡◌, ◌≤◌}
use Rattle.zarr_grids_boxes.specs.Boxes.{Region, product, places}
use Rattle.zarr_grids_chunks.specs.Grids.{Grid, AreInGrid, intersecting}

-- a box of chunk indices lists the chunks that a box of places intersects
pub record AreIntersecting (grid : Grid) (region chunks : Region) : Type 0 where
  pub listed : places chunks.start chunks.shape ≡ intersecting grid region
  pub below : AreInGrid grid chunks
  pub few : product chunks.shape ≤ product region.shape
