use Rattle.std.proofs.Common.{◌≡◌, ◌<◌, ℕ, IsTrue}
use Rattle.zarr_grids_boxes.specs.Boxes.{place_at}
use Rattle.zarr_array_core.specs.Arrays.{array_of}
use Rattle.zarr_array_core.specs.Rewriting.{IsLargeKeyedAt}
use Rattle.zarr_array_core.proofs.array_core.ArrayCore.has_large_keyed.Given as goal

abbrev pub invariant-loop-n : goal.invariant-loop-n
invariant-loop-n g l = record {
  none : IsTrue (g.S.ReadableStorageTraits.is_honest l.initial.store) → (m : ℕ) → m < l.n → IsLargeKeyedAt (array_of g.C.ArrayToBytesCodecTraits l.self) (place_at l.chunks.start.items l.chunks.shape.items m) (g.S.ReadableStorageTraits.held l.initial.store) → ⊥;
  held : g.S.ReadableStorageTraits.held l.store ≡ g.S.ReadableStorageTraits.held l.initial.store;
  honest : g.S.ReadableStorageTraits.is_honest l.store ≡ g.S.ReadableStorageTraits.is_honest l.initial.store;
  refused : g.S.ReadableStorageTraits.refused_calls l.store ≡ g.S.ReadableStorageTraits.refused_calls l.initial.store;
  accepted : g.S.ReadableStorageTraits.accepted_writes l.store ≡ g.S.ReadableStorageTraits.accepted_writes l.initial.store;
}
