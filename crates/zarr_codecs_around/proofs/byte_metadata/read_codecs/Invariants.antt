use Rattle.std.proofs.Common.{◌≡◌, ◌++◌, map, drop, option_map}
use Rattle.zarr_grids_metadata.specs.Views.{point_view}
use Rattle.zarr_codecs_around.specs.Codecs.{codecs_in}
use Rattle.zarr_codecs_around.proofs.byte_metadata.read_codecs.Given as goal

-- the codecs so far, and before those that the metadata that is left says
abbrev pub invariant-loop-point : goal.invariant-loop-point
invariant-loop-point g l =
    codecs_in g.B.BytesToBytesCodecTraits.reads (map point_view l.points)
    ≡ option_map (λ others. map g.B.BytesToBytesCodecTraits.meaning l.codecs.items ++ others) (codecs_in g.B.BytesToBytesCodecTraits.reads (map point_view (drop l.point-index l.points)))
