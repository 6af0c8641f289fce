use Rattle.std.proofs.Common.{◌≡◌, map, take}
use Rattle.serde_json.specs.View.{view}
use Rattle.zarr_grids_configurations.specs.Written.{rectilinear_data}
use Rattle.zarr_grids_configurations.proofs.to_json.rectilinear_to_json.Given as goal

-- the values so far
abbrev pub invariant-loop-lengths : goal.invariant-loop-lengths
invariant-loop-lengths l = map view l.values.items ≡ map rectilinear_data (take l.lengths-index l.chunk_shapes)
