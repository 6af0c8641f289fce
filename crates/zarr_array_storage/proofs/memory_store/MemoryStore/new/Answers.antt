use Rattle.std.proofs.Common.{sym, subst}
use Rattle.zarr_array_storage.specs.MemoryStores.{HasStoreKeys}
use Rattle.zarr_array_storage.proofs.KeyLemmas.{empty_keys}
use Rattle.zarr_array_storage.proofs.memory_store.MemoryStore.new.Goals as goal

pub invariant_of-result : goal.invariant_of-result
invariant_of-result c = subst HasStoreKeys (sym c.new.ensures) empty_keys
