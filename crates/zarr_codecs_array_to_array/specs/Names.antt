-- The names that codecs keep: some have a default name and an alias (this project's profile).
use Rattle.std.specs.Prelude.{ℕ, List, codes}
use Rattle.zarr_grids_metadata.specs.ExtensionPoints.{ExtensionPoint, named}
use Rattle.zarr_codecs_array_to_array.specs.Views.{transpose_of, reshape_of}
use Rattle.zarr_codecs_array_to_array.specs.Written.{array_codec_point}
use Rattle.zarr_codecs_array_to_array.specs.declared.name.CodecName.{CodecName}
use Rattle.zarr_codecs_array_to_array.specs.declared.name.CodecName.TheVariants as names
use Rattle.zarr_codecs_array_to_array.specs.declared.squeeze.SqueezeCodec.{SqueezeCodec}
use Rattle.zarr_codecs_array_to_array.specs.declared.codec.ArrayToArrayCodec.{ArrayToArrayCodec}
use Rattle.zarr_codecs_array_to_array.specs.declared.codec.ArrayToArrayCodec.TheVariants as codecs

-- the names of `squeeze`
abbrev pub name_of_squeeze : CodecName → List ℕ
name_of_squeeze names.Default = codes "squeeze"
name_of_squeeze names.Alias = codes "zarrs.squeeze"

-- the name that a codec `squeeze` keeps
abbrev pub squeeze_name : SqueezeCodec → List ℕ
squeeze_name codec = name_of_squeeze codec.name

-- the metadata of a codec between arrays, under the name that it keeps
abbrev pub written_codec : ArrayToArrayCodec → ExtensionPoint
written_codec (codecs.Transpose codec) = array_codec_point (transpose_of codec)
written_codec (codecs.Reshape codec) = array_codec_point (reshape_of codec)
written_codec (codecs.Squeeze codec) = named (squeeze_name codec)
