use Rattle.std.proofs.Common.{◌≡◌, ◌++◌}
use Rattle.zarr_array_storage.specs.ValueMaps.{key_bytes}
use Rattle.zarr_array_storage.proofs.value_map.ValueMap.list.Given as goal

abbrev pub invariant-loop-key : goal.invariant-loop-key
invariant-loop-key l = key_bytes l.keys.items ++ key_bytes l.key-iterator ≡ key_bytes l.initial.key-iterator
