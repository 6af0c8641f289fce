-- The configurations that values in code are.
use Rattle.std.specs.Prelude.{List, map}
use Rattle.zarr_grids_configurations.specs.declared.dimensions.GivenEdges.{GivenEdges}
use Rattle.zarr_grids_configurations.specs.declared.dimensions.GivenEdges.TheVariants as given
use Rattle.zarr_grids_dimensions.specs.declared.repeat.RepeatedEdge.{RepeatedEdge}
use Rattle.zarr_grids_configurations.specs.Grids.{Edges, fixed, bounded, exact, covering, single_repeat}
use Rattle.zarr_grids_configurations.specs.Configurations as json
use Rattle.zarr_grids_configurations.specs.declared.rectangular.RectangularChunkGridDimensionConfiguration.{RectangularChunkGridDimensionConfiguration}
use Rattle.zarr_grids_configurations.specs.declared.rectangular.RectangularChunkGridDimensionConfiguration.TheVariants as rectangular
use Rattle.zarr_grids_configurations.specs.declared.rectilinear.RunLengthElement.{RunLengthElement}
use Rattle.zarr_grids_configurations.specs.declared.rectilinear.RunLengthElement.TheVariants.{Single, Repeated}
use Rattle.zarr_grids_configurations.specs.declared.rectilinear.ChunkEdgeLengths.{ChunkEdgeLengths}
use Rattle.zarr_grids_configurations.specs.declared.rectilinear.ChunkEdgeLengths.TheVariants as rectilinear
use Rattle.zarr_grids_configurations.specs.declared.configuration.ChunkGridKind.{ChunkGridKind}
use Rattle.zarr_grids_configurations.specs.declared.configuration.ChunkGridKind.TheVariants as kinds
use Rattle.zarr_grids_configurations.specs.declared.configuration.GridConfiguration.{GridConfiguration}
use Rattle.zarr_grids_configurations.specs.declared.configuration.GridConfiguration.TheVariants as grids

-- the edges that one entry of a `rectangular` configuration gives for a dimension
abbrev pub rectangular_view : RectangularChunkGridDimensionConfiguration → Edges
rectangular_view (rectangular.Fixed edge) = fixed edge
rectangular_view (rectangular.Varying edges) = exact edges.items

-- the edge and its count that one element of a list of `rectilinear` stands for
abbrev pub repeat_of : RunLengthElement → RepeatedEdge
repeat_of (Single edge) = single_repeat edge
repeat_of (Repeated repeat) = repeat

-- the edges that one entry of a `rectilinear` configuration gives for a dimension
abbrev pub rectilinear_view : ChunkEdgeLengths → Edges
rectilinear_view (rectilinear.Scalar edge) = fixed edge
rectilinear_view (rectilinear.Varying elements) = covering (map repeat_of elements.items)

-- the kind of grid that a value of the type `ChunkGridKind` is
abbrev pub kind_view : ChunkGridKind → json.GridKind
kind_view kinds.Regular = json.regular
kind_view kinds.RegularBounded = json.regular_bounded
kind_view kinds.Rectangular = json.rectangular
kind_view kinds.Rectilinear = json.rectilinear

-- the chunk grid that a configuration is for
abbrev pub kind_of_configuration : GridConfiguration → json.GridKind
kind_of_configuration (grids.Regular configuration) = json.regular
kind_of_configuration (grids.RegularBounded configuration) = json.regular_bounded
kind_of_configuration (grids.Rectangular configuration) = json.rectangular
kind_of_configuration (grids.Rectilinear configuration) = json.rectilinear

-- the edges that a configuration gives for each dimension
abbrev pub edges_of : GridConfiguration → List Edges
edges_of (grids.Regular configuration) = map fixed configuration.chunk_shape
edges_of (grids.RegularBounded configuration) = map bounded configuration.chunk_shape
edges_of (grids.Rectangular configuration) = map rectangular_view configuration.chunk_shape.items
edges_of (grids.Rectilinear configuration) = map rectilinear_view configuration.chunk_shapes.items

-- the edges that borrowed lists give for each dimension
abbrev pub given_view : GivenEdges → List Edges
given_view (given.Regular edges) = map fixed edges.now
given_view (given.Bounded edges) = map bounded edges.now
given_view (given.Rectangular configuration) = map rectangular_view configuration.now
given_view (given.Rectilinear configuration) = map rectilinear_view configuration.now
