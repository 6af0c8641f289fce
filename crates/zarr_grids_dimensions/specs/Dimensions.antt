-- The dimensions and grids that values in code are.
use Rattle.std.specs.Prelude.{List, map}
use Rattle.zarr_grids_chunks.specs.Grids.{Dimension, regular, clipped, Grid}
use Rattle.zarr_grids_dimensions.specs.Varying.{varying_dimension}
use Rattle.zarr_grids_dimensions.specs.declared.dimension.Dimension.{Dimension as DeclaredDimension}
use Rattle.zarr_grids_dimensions.specs.declared.dimension.Dimension.TheVariants.{Regular, Clipped, Varying}

-- the dimension that a value of the type `Dimension` is
abbrev pub dimension_of : DeclaredDimension → Dimension
dimension_of (Regular fixed) = regular fixed.size fixed.edge
dimension_of (Clipped fixed) = clipped fixed.size fixed.edge
dimension_of (Varying edges) = varying_dimension edges

-- the grid that a list of dimensions in code is
abbrev pub grid_of : List DeclaredDimension → Grid
grid_of dimensions = map dimension_of dimensions
