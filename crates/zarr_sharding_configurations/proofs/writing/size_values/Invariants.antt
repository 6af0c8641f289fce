use Rattle.std.proofs.Common.{◌≡◌, map, take}
use Rattle.serde_json.specs.View.{view}
use Rattle.zarr_sharding_configurations.specs.Written.{size_data}
use Rattle.zarr_sharding_configurations.proofs.writing.size_values.Given as goal

-- the values so far are those of the sizes so far
abbrev pub invariant-loop-size : goal.invariant-loop-size
invariant-loop-size l = map view l.values.items ≡ map size_data (take l.size-index l.sizes)
