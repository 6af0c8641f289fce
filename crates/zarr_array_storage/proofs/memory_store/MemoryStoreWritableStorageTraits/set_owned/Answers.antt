use Rattle.zarr_array_storage.proofs.KeyLemmas.{inserted_keys}
use Rattle.zarr_array_storage.proofs.memory_store.MemoryStoreWritableStorageTraits.set_owned.Goals as goal

pub invariant_of-self-2 : goal.invariant_of-self-2
invariant_of-self-2 c = rw (c.in_ok-set.ensures.ok) (inserted_keys c.self.inside.values _ _ c.as_str.ensures.store_key c.self.invariant)
