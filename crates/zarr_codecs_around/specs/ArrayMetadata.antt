-- Array codecs that metadata begins with.
use Rattle.std.specs.Prelude.{List, [], ◌∷◌, Bool, false, Some, None}
use Rattle.zarr_grids_metadata.specs.ExtensionPoints.{ExtensionPoint}
use Rattle.zarr_codecs_meaning.specs.Chains.{ArrayCodec}
use Rattle.zarr_codecs_metadata.specs.ArrayCodecs.{array_codec_in}
use Rattle.zarr_codecs_array_to_array.specs.Refusals.{names_array_codec}

-- the array to array codecs that extension points begin with
abbrev pub array_codecs_of : List ExtensionPoint → List ArrayCodec
array_codecs_of [] = []
array_codecs_of (point ∷ points) = elim (array_codec_in point) [ Some codec ↦ codec ∷ array_codecs_of points | None ↦ [] ]

-- whether the first of extension points names a codec between arrays
abbrev pub begins_with_array_codec : List ExtensionPoint → Bool
begins_with_array_codec [] = false
begins_with_array_codec (point ∷ points) = names_array_codec point.name

-- whether, after those that say codecs between arrays, an extension point names one whose configuration is not one of its name's
abbrev pub is_array_codec_misconfigured : List ExtensionPoint → Bool
is_array_codec_misconfigured [] = false
is_array_codec_misconfigured (point ∷ points) = elim (array_codec_in point) [ Some codec ↦ is_array_codec_misconfigured points | None ↦ names_array_codec point.name ]
