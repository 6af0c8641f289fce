use Rattle.std.proofs.Common.{◌≡◌, ◌++◌, false}
use Rattle.std.specs.List.{list_any}
use Rattle.zarr_array_storage.specs.ValueMaps.{key_bytes}
use Rattle.zarr_grids_keys.specs.Paths.{ends_with_slash}
use Rattle.zarr_array_storage.proofs.memory_store.store_keys.Given as goal

abbrev pub invariant-loop-text : goal.invariant-loop-text
invariant-loop-text l = record {
  so_far : l.keys.items ++ key_bytes l.text-iterator.rest.items ≡ key_bytes l.fn.texts.items;
  store_keys : list_any ends_with_slash (key_bytes l.text-iterator.rest.items) ≡ false;
}
