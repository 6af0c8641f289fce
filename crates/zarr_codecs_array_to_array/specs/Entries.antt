-- What the dimensions of a new shape stand for.
use Rattle.zarr_codecs_meaning.specs.Chains.{ShapeEntry}
use Rattle.zarr_codecs_meaning.specs.Chains.ShapeEntry.{size_entry, product_entry, left_over}
use Rattle.zarr_codecs_array_to_array.specs.declared.dimensions.ReshapeDim.{ReshapeDim}
use Rattle.zarr_codecs_array_to_array.specs.declared.dimensions.ReshapeDim.TheVariants as dims

-- what a dimension of a new shape stands for
abbrev pub entry_of : ReshapeDim → ShapeEntry
entry_of (dims.Size size) = size_entry size
entry_of (dims.InputDims dimensions) = product_entry dimensions.items
entry_of dims.Auto = left_over
