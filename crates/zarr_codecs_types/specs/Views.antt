-- What the data types and the cells of `src/` stand for.
use Rattle.std.specs.Prelude.{List, map}
use Rattle.zarr_codecs_meaning.specs.Types as types
use Rattle.zarr_codecs_types.specs.declared.data_type.Sign.{Sign}
use Rattle.zarr_codecs_types.specs.declared.data_type.Sign.TheVariants.{Unsigned, Signed}
use Rattle.zarr_codecs_types.specs.declared.data_type.Component.{Component}
use Rattle.zarr_codecs_types.specs.declared.data_type.DataType.{DataType, Bool, Int2, Int4, Int8, Int16, Int32, Int64, UInt2, UInt4, UInt8, UInt16, UInt32, UInt64, String, Bytes, Optional', Custom}
use Rattle.zarr_codecs_types.specs.declared.cell.Cell.{Cell, Bytes as CellBytes, Absent, Present'}
use Rattle.zarr_codecs_types.specs.declared.fill_value.FillValue.{FillValue}

-- the sign rule
abbrev pub sign_of : Sign → types.Sign
sign_of Unsigned = types.unsigned
sign_of Signed = types.signed

-- one number of an element
abbrev pub component_of : Component → types.Component
component_of c = record { width = c.width; byte_count = c.byte_count; sign = sign_of c.sign }

-- the numbers of an element
abbrev pub components_of : List Component → List types.Component
components_of parts = map component_of parts

-- the data type
abbrev pub type_of : DataType → types.DataType
type_of Bool = types.bool
type_of Int2 = types.integer types.signed 2
type_of Int4 = types.integer types.signed 4
type_of Int8 = types.integer types.signed 8
type_of Int16 = types.integer types.signed 16
type_of Int32 = types.integer types.signed 32
type_of Int64 = types.integer types.signed 64
type_of UInt2 = types.integer types.unsigned 2
type_of UInt4 = types.integer types.unsigned 4
type_of UInt8 = types.integer types.unsigned 8
type_of UInt16 = types.integer types.unsigned 16
type_of UInt32 = types.integer types.unsigned 32
type_of UInt64 = types.integer types.unsigned 64
type_of String = types.string
type_of Bytes = types.variable_bytes
type_of (Optional' p inner) = types.optional_of (type_of inner)
type_of (Custom parts) = types.custom (components_of parts.items)

-- the element
abbrev pub cell_of : Cell → types.Cell
cell_of (CellBytes bytes) = types.of_bytes bytes.items
cell_of Absent = types.absent
cell_of (Present' p cell) = types.present (cell_of cell)

-- the elements
abbrev pub cells_of : List Cell → List types.Cell
cells_of cells = map cell_of cells

-- the cell that a fill value holds
abbrev pub held_cell : FillValue → Cell
held_cell value = value.cell

-- the element that a fill value is
abbrev pub fill_of : FillValue → types.Cell
fill_of value = cell_of (held_cell value)
