use Rattle.std.proofs.Common.{◌≡◌, map, take}
use Rattle.serde_json.specs.View.{view}
use Rattle.zarr_grids_configurations.specs.Written.{rectangular_data}
use Rattle.zarr_grids_configurations.proofs.to_json.rectangular_to_json.Given as goal

-- the values so far
abbrev pub invariant-loop-edges : goal.invariant-loop-edges
invariant-loop-edges l = map view l.values.items ≡ map rectangular_data (take l.edges-index l.chunk_shape)
