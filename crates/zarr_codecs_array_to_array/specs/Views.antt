-- What the codecs of `src/` stand for.
use Rattle.std.specs.Prelude.{ℕ, List, map}
use Rattle.zarr_codecs_meaning.specs.Chains.{ArrayCodec, ShapeEntry}
use Rattle.zarr_codecs_meaning.specs.Chains.ArrayCodec.{transpose, reshape, squeeze}
use Rattle.zarr_codecs_array_to_array.specs.Entries.{entry_of}
use Rattle.zarr_codecs_array_to_array.specs.declared.new_shape.ReshapeShape.{ReshapeShape}
use Rattle.zarr_codecs_array_to_array.specs.declared.reshape.ReshapeCodec.{ReshapeCodec}
use Rattle.zarr_codecs_array_to_array.specs.declared.order.TransposeOrder.{TransposeOrder}
use Rattle.zarr_codecs_array_to_array.specs.declared.transpose.TransposeCodec.{TransposeCodec}
use Rattle.zarr_codecs_array_to_array.specs.declared.squeeze.SqueezeCodec.{SqueezeCodec}
use Rattle.zarr_codecs_array_to_array.specs.declared.codec.ArrayToArrayCodec.{ArrayToArrayCodec}
use Rattle.zarr_codecs_array_to_array.specs.declared.codec.ArrayToArrayCodec.TheVariants as codecs

-- the dimensions in their order
abbrev pub order_of : TransposeOrder → List ℕ
order_of order = order.dimensions.items

-- what a transposition does
abbrev pub transpose_of : TransposeCodec → ArrayCodec
transpose_of codec = transpose (order_of codec.order)

-- what the dimensions of a new shape stand for
abbrev pub entries_of : ReshapeShape → List ShapeEntry
entries_of shape = map entry_of shape.dimensions.items

-- what a reshaping does
abbrev pub reshape_of : ReshapeCodec → ArrayCodec
reshape_of codec = reshape (entries_of codec.shape)

-- what a squeezing does
abbrev pub squeeze_of : SqueezeCodec → ArrayCodec
squeeze_of codec = squeeze

-- what a codec does
abbrev pub codec_of : ArrayToArrayCodec → ArrayCodec
codec_of (codecs.Transpose codec) = transpose_of codec
codec_of (codecs.Reshape codec) = reshape_of codec
codec_of (codecs.Squeeze codec) = squeeze_of codec
