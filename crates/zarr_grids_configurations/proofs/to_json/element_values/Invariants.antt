use Rattle.std.proofs.Common.{◌≡◌, map, take}
use Rattle.serde_json.specs.View.{view}
use Rattle.zarr_grids_configurations.specs.Written.{element_data}
use Rattle.zarr_grids_configurations.proofs.to_json.element_values.Given as goal

-- the values so far
abbrev pub invariant-loop-element : goal.invariant-loop-element
invariant-loop-element l = map view l.values.items ≡ map element_data (take l.element-index l.elements)
