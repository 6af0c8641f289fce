use Rattle.std.proofs.Common.{◌≡◌, ◌++◌, map, take}
use Rattle.zarr_grids_metadata.specs.Views.{point_of}
use Rattle.zarr_codecs_around.proofs.byte_metadata.push_metadatas.Given as goal

-- the metadata of the codecs so far is appended
abbrev pub invariant-loop-codec : goal.invariant-loop-codec
invariant-loop-codec g l = map point_of l.metadatas.items ≡ map point_of l.initial.metadatas.items ++ map g.B.BytesToBytesCodecTraits.described (take l.codec-index l.codecs)
