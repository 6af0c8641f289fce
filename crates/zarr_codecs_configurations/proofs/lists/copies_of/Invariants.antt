use Rattle.std.proofs.Common.{◌≡◌, map, take}
use Rattle.zarr_grids_metadata.specs.Views.{point_of, point_view}
use Rattle.zarr_codecs_configurations.proofs.lists.copies_of.Given as goal

-- the copies so far are those of the points so far
abbrev pub invariant-loop-point : goal.invariant-loop-point
invariant-loop-point l = map point_of l.copies.items ≡ map point_view (take l.point-index l.points)
