use Rattle.std.proofs.Common.{◌≡◌, map, take}
use Rattle.serde_json.specs.View.{view}
use Rattle.zarr_codecs_array_to_array.specs.Written.{number_data}
use Rattle.zarr_codecs_array_to_array.proofs.metadata.number_values.Given as goal

-- the values so far
abbrev pub invariant-loop-number : goal.invariant-loop-number
invariant-loop-number l = map view l.values.items ≡ map number_data (take l.number-index l.numbers)
