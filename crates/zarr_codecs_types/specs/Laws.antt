-- Laws of data types, cells and fill values.
use Rattle.std.specs.Prelude.{◌≡◌, Decides, true, Some, if◌then◌else◌, option_map, option_and_then}
use Rattle.serde_json.specs.Data.{Data}
use Rattle.zarr_grids_metadata.specs.ExtensionPoints.{ExtensionPoint, configuration_members}
use Rattle.zarr_codecs_meaning.specs.Types.{DataType, optional_of, Cell, same_cell, is_value}
use Rattle.zarr_codecs_types.specs.Same.{same_type}
use Rattle.zarr_codecs_types.specs.Metadata.{data_type_in, metadata_of, is_optional_name, inner_point, plain_type, point_type}
use Rattle.zarr_codecs_types.specs.FillMetadata.{cell_in, cell_data, holds_bytes}

-- ---- equality

-- the test of data types holds of a type and itself alone
abbrev pub SameTypeIsEqual : Type 0
SameTypeIsEqual = (a b : DataType) → Decides (same_type a b) (a ≡ b)

-- the test of cells holds of a cell and itself alone
abbrev pub SameCellIsEqual : Type 0
SameCellIsEqual = (a b : Cell) → Decides (same_cell a b) (a ≡ b)

-- ---- metadata of data types

-- an optional type says the type that its inner extension point says, however deep that nests
abbrev pub OptionalTypesNest : Type 0
OptionalTypesNest = (point : ExtensionPoint) →
    point_type point ≡ (if is_optional_name point.name then option_map optional_of (option_and_then point_type (inner_point (configuration_members point.configuration))) else plain_type point)

-- what is written for a type reads as that type
abbrev pub MetadataReadsBack : Type 0
MetadataReadsBack = (type : DataType) (d : Data) → metadata_of type ≡ Some d → data_type_in d ≡ Some type

-- ---- fill values in metadata

-- a cell of bytes that is read for a data type is a value of it
abbrev pub FillIsValue : Type 0
FillIsValue = (type : DataType) (d : Data) (cell : Cell) → cell_in type d ≡ Some cell → holds_bytes cell ≡ true → is_value type cell ≡ true

-- what is written for a cell of a data type reads as that cell
abbrev pub FillReadsBack : Type 0
FillReadsBack = (type : DataType) (cell : Cell) (d : Data) → cell_data type cell ≡ Some d → cell_in type d ≡ Some cell
