-- The JSON that is written for a configuration.
use Rattle.std.specs.Prelude.{ℕ, List, [], ◌∷◌, map, codes}
use Rattle.serde_json.specs.Data.{Data, number, unsigned, string, array, Members, no_members, put}
use Rattle.serde_json.specs.View.{items_of}
use Rattle.zarr_grids_configurations.specs.declared.rectangular.RectangularChunkGridDimensionConfiguration.{RectangularChunkGridDimensionConfiguration}
use Rattle.zarr_grids_configurations.specs.declared.rectangular.RectangularChunkGridDimensionConfiguration.TheVariants as rectangular
use Rattle.zarr_grids_configurations.specs.declared.rectilinear.RunLengthElement.{RunLengthElement}
use Rattle.zarr_grids_configurations.specs.declared.rectilinear.RunLengthElement.TheVariants.{Single, Repeated}
use Rattle.zarr_grids_configurations.specs.declared.rectilinear.ChunkEdgeLengths.{ChunkEdgeLengths}
use Rattle.zarr_grids_configurations.specs.declared.rectilinear.ChunkEdgeLengths.TheVariants as rectilinear

-- a size as a JSON value
abbrev pub size_data : ℕ → Data
size_data n = number (unsigned n)

-- a number, or a pair of an edge and a count
abbrev pub element_data : RunLengthElement → Data
element_data (Single edge) = size_data edge
element_data (Repeated repeat) = array (items_of (size_data repeat.edge ∷ size_data repeat.count ∷ []))

-- a number, or a list of numbers
abbrev pub rectangular_data : RectangularChunkGridDimensionConfiguration → Data
rectangular_data (rectangular.Fixed edge) = size_data edge
rectangular_data (rectangular.Varying edges) = array (items_of (map size_data edges.items))

-- a number, or a list of numbers and pairs
abbrev pub rectilinear_data : ChunkEdgeLengths → Data
rectilinear_data (rectilinear.Scalar edge) = size_data edge
rectilinear_data (rectilinear.Varying elements) = array (items_of (map element_data elements.items))

-- the members of a written configuration of `regular` or `regular_bounded`
abbrev pub regular_members : List ℕ → Members
regular_members chunk_shape = put (codes "chunk_shape") (array (items_of (map size_data chunk_shape))) no_members

-- the members of a written configuration of `rectangular`
abbrev pub rectangular_members : List RectangularChunkGridDimensionConfiguration → Members
rectangular_members chunk_shape = put (codes "chunk_shape") (array (items_of (map rectangular_data chunk_shape))) no_members

-- the members of a written configuration of `rectilinear`
abbrev pub rectilinear_members : List ChunkEdgeLengths → Members
rectilinear_members chunk_shapes = put (codes "kind") (string (codes "inline")) (put (codes "chunk_shapes") (array (items_of (map rectilinear_data chunk_shapes))) no_members)
