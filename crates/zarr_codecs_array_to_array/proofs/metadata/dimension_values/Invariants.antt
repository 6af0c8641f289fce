use Rattle.std.proofs.Common.{◌≡◌, map, take}
use Rattle.serde_json.specs.View.{view}
use Rattle.zarr_codecs_array_to_array.specs.Entries.{entry_of}
use Rattle.zarr_codecs_array_to_array.specs.Written.{entry_data}
use Rattle.zarr_codecs_array_to_array.proofs.metadata.dimension_values.Given as goal

-- the values so far
abbrev pub invariant-loop-dimension : goal.invariant-loop-dimension
invariant-loop-dimension l = map view l.values.items ≡ map entry_data (map entry_of (take l.dimension-index l.dimensions))
