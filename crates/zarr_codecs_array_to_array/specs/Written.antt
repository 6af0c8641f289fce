-- The metadata that is written for array to array codecs.
use Rattle.std.specs.Prelude.{ℕ, negsuc, List, map, codes, bytes_eq, if◌then◌else◌, Option, None}
use Rattle.serde_json.specs.Data.{Data, number, unsigned, negative, array, no_members, put}
use Rattle.serde_json.specs.View.{items_of}
use Rattle.zarr_grids_metadata.specs.ExtensionPoints.{ExtensionPoint, named, configured, configuration_members}
use Rattle.zarr_codecs_metadata.specs.ArrayCodecs as metadata
use Rattle.zarr_codecs_meaning.specs.Chains.{ArrayCodec, ShapeEntry}
use Rattle.zarr_codecs_meaning.specs.Chains.ArrayCodec.{transpose, reshape, squeeze}
use Rattle.zarr_codecs_meaning.specs.Chains.ShapeEntry.{size_entry, product_entry, left_over}

-- a number as a JSON value
abbrev pub number_data : ℕ → Data
number_data n = number (unsigned n)

-- numbers as a JSON list
abbrev pub numbers_data : List ℕ → Data
numbers_data numbers = array (items_of (map number_data numbers))

-- an entry of a new shape as a JSON value
abbrev pub entry_data : ShapeEntry → Data
entry_data (size_entry size) = number_data size
entry_data (product_entry dimensions) = numbers_data dimensions
entry_data left_over = number (negative (negsuc 0))

-- the metadata of an array codec
abbrev pub array_codec_point : ArrayCodec → ExtensionPoint
array_codec_point (transpose order) = configured (codes "transpose") (put (codes "order") (numbers_data order) no_members)
array_codec_point (reshape entries) = configured (codes "reshape") (put (codes "shape") (array (items_of (map entry_data entries))) no_members)
array_codec_point squeeze = named (codes "squeeze")

-- `transpose`, where an extension point is that
abbrev pub transpose_in : ExtensionPoint → Option ArrayCodec
transpose_in point = if bytes_eq point.name (codes "transpose") then metadata.transpose_of (configuration_members point.configuration) else None

-- `reshape`, where an extension point is that
abbrev pub reshape_in : ExtensionPoint → Option ArrayCodec
reshape_in point = if bytes_eq point.name (codes "reshape") then metadata.reshape_of (configuration_members point.configuration) else None

-- `squeeze`, where an extension point is that
abbrev pub squeeze_in : ExtensionPoint → Option ArrayCodec
squeeze_in point = if metadata.names_squeeze point.name then metadata.squeeze_of (configuration_members point.configuration) else None
