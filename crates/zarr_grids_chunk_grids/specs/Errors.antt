-- The causes of refused grids.
use Rattle.std.specs.Prelude.{ℕ, List, map}
use Rattle.zarr_grids_configurations.specs.Grids.{fixed, bounded}
use Rattle.zarr_grids_configurations.specs.Views.{rectangular_view, rectilinear_view}
use Rattle.zarr_grids_configurations.specs.Errors.{RefusesGrid}
use Rattle.zarr_grids_configurations.specs.declared.error.GridError.{GridError}
use Rattle.zarr_grids_configurations.specs.declared.error.GridError.TheVariants as any
use Rattle.zarr_grids_configurations.specs.declared.rectangular.RectangularChunkGridDimensionConfiguration.{RectangularChunkGridDimensionConfiguration}
use Rattle.zarr_grids_configurations.specs.declared.rectilinear.ChunkEdgeLengths.{ChunkEdgeLengths}
use Rattle.zarr_grids_chunk_grids.specs.declared.regular.RegularChunkGridCreateError.{RegularChunkGridCreateError}
use Rattle.zarr_grids_chunk_grids.specs.declared.regular.RegularChunkGridCreateError.TheVariants as regular
use Rattle.zarr_grids_chunk_grids.specs.declared.regular_bounded.RegularBoundedChunkGridCreateError.{RegularBoundedChunkGridCreateError}
use Rattle.zarr_grids_chunk_grids.specs.declared.regular_bounded.RegularBoundedChunkGridCreateError.TheVariants as regular_bounded
use Rattle.zarr_grids_chunk_grids.specs.declared.rectangular.RectangularChunkGridCreateError.{RectangularChunkGridCreateError}
use Rattle.zarr_grids_chunk_grids.specs.declared.rectangular.RectangularChunkGridCreateError.TheVariants as rectangular
use Rattle.zarr_grids_chunk_grids.specs.declared.rectilinear.RectilinearChunkGridCreateError.{RectilinearChunkGridCreateError}
use Rattle.zarr_grids_chunk_grids.specs.declared.rectilinear.RectilinearChunkGridCreateError.TheVariants as rectilinear

-- ---- each grid's causes, among those of all grids

-- the error of `GridError` that an error of a `regular` grid is
abbrev pub cause_of_regular : RegularChunkGridCreateError → GridError
cause_of_regular (regular.Dimensionality e) = any.Dimensionality e
cause_of_regular regular.Memory = any.Memory

-- the error of `GridError` that an error of a `regular_bounded` grid is
abbrev pub cause_of_regular_bounded : RegularBoundedChunkGridCreateError → GridError
cause_of_regular_bounded (regular_bounded.Dimensionality e) = any.Dimensionality e
cause_of_regular_bounded regular_bounded.Memory = any.Memory

-- the error of `GridError` that an error of a `rectangular` grid is
abbrev pub cause_of_rectangular : RectangularChunkGridCreateError → GridError
cause_of_rectangular (rectangular.Dimensionality e) = any.Dimensionality e
cause_of_rectangular rectangular.ZeroEdge = any.ZeroEdge
cause_of_rectangular rectangular.Sum = any.Sum
cause_of_rectangular rectangular.Memory = any.Memory

-- the error of `GridError` that an error of a `rectilinear` grid is
abbrev pub cause_of_rectilinear : RectilinearChunkGridCreateError → GridError
cause_of_rectilinear (rectilinear.Dimensionality e) = any.Dimensionality e
cause_of_rectilinear rectilinear.ZeroEdge = any.ZeroEdge
cause_of_rectilinear rectilinear.Sum = any.Sum
cause_of_rectilinear rectilinear.TooManyChunks = any.TooManyChunks
cause_of_rectilinear rectilinear.Memory = any.Memory

-- ---- what a cause says of the shape of the array and the edges given for each dimension

-- why a `regular` grid is not made of a shape and a chunk shape
abbrev pub RefusesRegular : List ℕ → List ℕ → RegularChunkGridCreateError → Type 0
RefusesRegular shape edges e = RefusesGrid shape (map fixed edges) (cause_of_regular e)

-- why a `regular_bounded` grid is not made of a shape and a chunk shape
abbrev pub RefusesRegularBounded : List ℕ → List ℕ → RegularBoundedChunkGridCreateError → Type 0
RefusesRegularBounded shape edges e = RefusesGrid shape (map bounded edges) (cause_of_regular_bounded e)

-- why a `rectangular` grid is not made of a shape and edges
abbrev pub RefusesRectangular : List ℕ → List RectangularChunkGridDimensionConfiguration → RectangularChunkGridCreateError → Type 0
RefusesRectangular shape edges e = RefusesGrid shape (map rectangular_view edges) (cause_of_rectangular e)

-- why a `rectilinear` grid is not made of a shape and edges
abbrev pub RefusesRectilinear : List ℕ → List ChunkEdgeLengths → RectilinearChunkGridCreateError → Type 0
RefusesRectilinear shape edges e = RefusesGrid shape (map rectilinear_view edges) (cause_of_rectilinear e)
