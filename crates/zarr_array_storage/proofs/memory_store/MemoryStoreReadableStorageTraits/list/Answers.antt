use Rattle.std.proofs.Common.{◌∙◌, ap}
use Rattle.std.specs.List.{list_any}
use Rattle.zarr_grids_keys.specs.Paths.{ends_with_slash}
use Rattle.zarr_array_storage.proofs.KeyLemmas.{held_keys}
use Rattle.zarr_array_storage.proofs.memory_store.MemoryStoreReadableStorageTraits.list.Goals as goal

pub store_keys-requires : goal.store_keys-requires
store_keys-requires c = ap (list_any ends_with_slash) c.in_ok-texts.ensures ∙ held_keys c.self.inside.values c.self.invariant
