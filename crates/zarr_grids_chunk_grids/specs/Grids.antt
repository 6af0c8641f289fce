-- The grids that values in code are.
use Rattle.std.specs.Prelude.{ℕ, List, map}
use Rattle.zarr_grids_chunks.specs.Grids.{Grid}
use Rattle.zarr_grids_dimensions.specs.Dimensions.{grid_of}
use Rattle.zarr_grids_configurations.specs.Grids.{Edges, fixed, bounded}
use Rattle.zarr_grids_configurations.specs.Configurations.{GridKind, regular, regular_bounded, rectangular, rectilinear}
use Rattle.zarr_grids_configurations.specs.Views.{rectangular_view, rectilinear_view}
use Rattle.zarr_grids_chunk_grids.specs.declared.chunk_grid.ChunkGrid.{ChunkGrid}
use Rattle.zarr_grids_chunk_grids.specs.declared.chunk_grid.ChunkGrid.TheVariants.{Regular, RegularBounded, Rectangular, Rectilinear}
use Rattle.zarr_grids_configurations.specs.declared.rectangular.RectangularChunkGridDimensionConfiguration.{RectangularChunkGridDimensionConfiguration}
use Rattle.zarr_grids_configurations.specs.declared.rectilinear.ChunkEdgeLengths.{ChunkEdgeLengths}
use Rattle.zarr_grids_chunk_grids.specs.declared.regular.RegularChunkGrid.{RegularChunkGrid}
use Rattle.zarr_grids_chunk_grids.specs.declared.regular_bounded.RegularBoundedChunkGrid.{RegularBoundedChunkGrid}
use Rattle.zarr_grids_chunk_grids.specs.declared.rectangular.RectangularChunkGrid.{RectangularChunkGrid}
use Rattle.zarr_grids_chunk_grids.specs.declared.rectilinear.RectilinearChunkGrid.{RectilinearChunkGrid}

-- ---- what each grid was made of

-- the array's shape of a `regular` grid
abbrev pub array_shape_of_regular : RegularChunkGrid → List ℕ
array_shape_of_regular grid = grid.array_shape.items

-- the chunk shape of a `regular` grid
abbrev pub chunk_shape_of_regular : RegularChunkGrid → List ℕ
chunk_shape_of_regular grid = grid.chunk_shape

-- the array's shape of a `regular_bounded` grid
abbrev pub array_shape_of_bounded : RegularBoundedChunkGrid → List ℕ
array_shape_of_bounded grid = grid.array_shape.items

-- the chunk shape of a `regular_bounded` grid
abbrev pub chunk_shape_of_bounded : RegularBoundedChunkGrid → List ℕ
chunk_shape_of_bounded grid = grid.chunk_shape

-- the array's shape of a `rectangular` grid
abbrev pub array_shape_of_rectangular : RectangularChunkGrid → List ℕ
array_shape_of_rectangular grid = grid.array_shape.items

-- the edges that a `rectangular` grid was made from
abbrev pub edges_of_rectangular : RectangularChunkGrid → List RectangularChunkGridDimensionConfiguration
edges_of_rectangular grid = grid.chunk_shape.items

-- the array's shape of a `rectilinear` grid
abbrev pub array_shape_of_rectilinear : RectilinearChunkGrid → List ℕ
array_shape_of_rectilinear grid = grid.array_shape.items

-- the edges that a `rectilinear` grid was made from
abbrev pub edges_of_rectilinear : RectilinearChunkGrid → List ChunkEdgeLengths
edges_of_rectilinear grid = grid.chunk_shapes.items

-- ---- the grid that each is

-- the dimensions of a `regular` grid
abbrev pub grid_of_regular : RegularChunkGrid → Grid
grid_of_regular grid = grid_of grid.dimensions.items

-- the dimensions of a `regular_bounded` grid
abbrev pub grid_of_bounded : RegularBoundedChunkGrid → Grid
grid_of_bounded grid = grid_of grid.dimensions.items

-- the dimensions of a `rectangular` grid
abbrev pub grid_of_rectangular : RectangularChunkGrid → Grid
grid_of_rectangular grid = grid_of grid.dimensions.items

-- the dimensions of a `rectilinear` grid
abbrev pub grid_of_rectilinear : RectilinearChunkGrid → Grid
grid_of_rectilinear grid = grid_of grid.dimensions.items

-- ---- any grid

-- the dimensions of a chunk grid
abbrev pub grid_of_chunks : ChunkGrid → Grid
grid_of_chunks (Regular grid) = grid_of_regular grid
grid_of_chunks (RegularBounded grid) = grid_of_bounded grid
grid_of_chunks (Rectangular grid) = grid_of_rectangular grid
grid_of_chunks (Rectilinear grid) = grid_of_rectilinear grid

-- the kind that a value of the type `ChunkGrid` is of
abbrev pub kind_of_grid : ChunkGrid → GridKind
kind_of_grid (Regular grid) = regular
kind_of_grid (RegularBounded grid) = regular_bounded
kind_of_grid (Rectangular grid) = rectangular
kind_of_grid (Rectilinear grid) = rectilinear

-- the shape of the array
abbrev pub sizes_of_grid : ChunkGrid → List ℕ
sizes_of_grid (Regular grid) = array_shape_of_regular grid
sizes_of_grid (RegularBounded grid) = array_shape_of_bounded grid
sizes_of_grid (Rectangular grid) = array_shape_of_rectangular grid
sizes_of_grid (Rectilinear grid) = array_shape_of_rectilinear grid

-- the edges given for each dimension
abbrev pub edges_of_grid : ChunkGrid → List Edges
edges_of_grid (Regular grid) = map fixed (chunk_shape_of_regular grid)
edges_of_grid (RegularBounded grid) = map bounded (chunk_shape_of_bounded grid)
edges_of_grid (Rectangular grid) = map rectangular_view (edges_of_rectangular grid)
edges_of_grid (Rectilinear grid) = map rectilinear_view (edges_of_rectilinear grid)
