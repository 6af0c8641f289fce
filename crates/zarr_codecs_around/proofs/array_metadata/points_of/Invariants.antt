use Rattle.std.proofs.Common.{◌≡◌, map, take}
use Rattle.zarr_grids_metadata.specs.Views.{point_of, point_view}
use Rattle.zarr_codecs_around.proofs.array_metadata.points_of.Given as goal

-- the points so far are those of the metadata so far
abbrev pub invariant-loop-metadata : goal.invariant-loop-metadata
invariant-loop-metadata l = map point_view l.points.items ≡ map point_of (take l.metadata-index l.metadatas)
