-- Laws of chunk grids.
use Rattle.std.specs.Prelude.{◌≡◌, Decides, Some, map}
use Rattle.zarr_grids_dimensions.specs.Dimensions.{grid_of}
use Rattle.zarr_grids_dimensions.specs.RepeatedEdges.{expanded}
use Rattle.zarr_grids_dimensions.specs.Same.{same_grid}
use Rattle.zarr_grids_configurations.specs.Grids.{Edges, fixed, bounded, exact, covering, single_repeat, grid_in}
use Rattle.zarr_grids_configurations.specs.Views.{rectilinear_view}
use Rattle.zarr_grids_chunk_grids.specs.Grids.{array_shape_of_rectilinear, edges_of_rectilinear, grid_of_chunks, sizes_of_grid, edges_of_grid}
use Rattle.zarr_grids_chunk_grids.specs.declared.chunk_grid.ChunkGrid.{ChunkGrid}
use Rattle.zarr_grids_chunk_grids.specs.declared.rectilinear.RectilinearChunkGrid.{RectilinearChunkGrid}

-- a chunk grid is the one that its configuration makes of its array's shape
abbrev pub GridOfConfiguration : Type 0
GridOfConfiguration = (g : ChunkGrid) → grid_in (sizes_of_grid g) (edges_of_grid g) ≡ Some (grid_of_chunks g)

-- grids of equal shapes and equal edges are equal
abbrev pub EqualEdgesEqualGrids : Type 0
EqualEdgesEqualGrids = (g h : ChunkGrid) → sizes_of_grid g ≡ sizes_of_grid h → edges_of_grid g ≡ edges_of_grid h → grid_of_chunks g ≡ grid_of_chunks h

-- the same edges with each edge of a repeat given by itself
abbrev pub without_repeats : Edges → Edges
without_repeats (fixed edge) = fixed edge
without_repeats (bounded edge) = bounded edge
without_repeats (exact edges) = exact edges
without_repeats (covering repeats) = covering (map single_repeat (expanded repeats))

-- grids `rectilinear` are equal exactly where their arrays' shapes are, and the edges along each dimension with each edge of a repeat given by itself
abbrev pub RectilinearByEdges : Type 0
RectilinearByEdges = (g h : RectilinearChunkGrid) → Decides (same_grid (grid_of g.dimensions.items) (grid_of h.dimensions.items))
    ((array_shape_of_rectilinear g ≡ array_shape_of_rectilinear h) × (map without_repeats (map rectilinear_view (edges_of_rectilinear g)) ≡ map without_repeats (map rectilinear_view (edges_of_rectilinear h))))
