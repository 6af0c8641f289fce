use Rattle.zarr_array_storage.proofs.KeyLemmas.{removed_keys}
use Rattle.zarr_array_storage.proofs.memory_store.MemoryStoreWritableStorageTraits.erase.Goals as goal

pub invariant_of-self : goal.invariant_of-self
invariant_of-self c = rw (c.erase.ensures) (removed_keys c.self.inside.values c.as_str.result.now c.self.invariant)
