use Rattle.std.proofs.Common.{◌≡◌, ◌++◌, length, drop, map, take}
use Rattle.zarr_grids_metadata.specs.Views.{point_view}
use Rattle.zarr_grids_metadata.specs.declared.extension_point.ExtensionPoint.{ExtensionPoint}
use Rattle.zarr_codecs_array_to_array.specs.Names.{written_codec}
use Rattle.zarr_codecs_array_to_array.specs.declared.codec.ArrayToArrayCodec.{ArrayToArrayCodec}
use Rattle.zarr_codecs_around.specs.ArrayMetadata.{array_codecs_of, is_array_codec_misconfigured}
use Rattle.zarr_codecs_around.specs.Views.{codecs_of}
use Rattle.zarr_codecs_around.proofs.array_metadata.first_array_codecs.Given as goal

-- the codecs so far under the names that they have, and before those that the metadata that is left begins with, of which a configuration is wrong where one of all is
abbrev pub invariant-loop-point : goal.invariant-loop-point
invariant-loop-point l =
    (array_codecs_of (map point_view l.codecs) ≡ codecs_of l.array_to_array.items ++ array_codecs_of (map point_view (drop l.point-index l.codecs))) × (length l.array_to_array.items ≡ l.point-index)
    × (map (λ (codec : ArrayToArrayCodec). (written_codec codec).name) l.array_to_array.items ≡ map (λ (point : ExtensionPoint). (point_view point).name) (take l.point-index l.codecs))
    × (is_array_codec_misconfigured (map point_view l.codecs) ≡ is_array_codec_misconfigured (map point_view (drop l.point-index l.codecs)))
