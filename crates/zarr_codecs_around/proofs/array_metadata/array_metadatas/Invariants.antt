use Rattle.std.proofs.Common.{◌≡◌, map, take, Some}
use Rattle.zarr_grids_metadata.specs.Views.{point_of}
use Rattle.zarr_codecs_metadata.specs.ArrayCodecs.{array_codec_in}
use Rattle.zarr_codecs_around.specs.Views.{array_points, codecs_of}
use Rattle.zarr_codecs_around.proofs.array_metadata.array_metadatas.Given as goal

-- the metadata so far is that of the codecs so far, and is read back
abbrev pub invariant-loop-codec : goal.invariant-loop-codec
invariant-loop-codec l =
    (map point_of l.metadatas.items ≡ array_points (take l.codec-index l.codecs))
    × (map array_codec_in (map point_of l.metadatas.items) ≡ map Some (codecs_of (take l.codec-index l.codecs)))
