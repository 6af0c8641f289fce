use Rattle.std.proofs.Common.{◌≡◌, map, take}
use Rattle.serde_json.specs.View.{view}
use Rattle.zarr_grids_metadata.specs.ExtensionPoints.{written_point_in}
use Rattle.zarr_array_fields.proofs.writing.written_points.Given as goal

-- so far each point was written
abbrev pub invariant-loop-point : goal.invariant-loop-point
invariant-loop-point l = map view l.written.items ≡ map (λ v. written_point_in (view v)) (take l.point-index l.points)
