use Rattle.std.proofs.Common.{◌≡◌, ◌≤◌, IsTrue}
use Rattle.zarr_grids_boxes.specs.Subsets.{region_of}
use Rattle.zarr_array_core.specs.Arrays.{array_of}
use Rattle.zarr_array_meaning.specs.StoreMaps.{CountsUpTo}
use Rattle.zarr_array_core.specs.Turns.{InTurn}
use Rattle.zarr_array_core.proofs.Rewritten.{SoFar, first_keyed}
use Rattle.zarr_array_core.proofs.array_core.ArrayCore.rewrite.Given as goal

abbrev pub invariant-loop-n : goal.invariant-loop-n
invariant-loop-n g l = record {
  so_far : IsTrue (g.S.ReadableStorageTraits.is_honest l.initial.store) → SoFar (array_of g.C.ArrayToBytesCodecTraits l.self) l.options.store_empty_chunks (region_of l.chunks) l.n l.applied (g.S.ReadableStorageTraits.held l.initial.store) (g.S.ReadableStorageTraits.held l.store);
  turns : IsTrue (g.S.ReadableStorageTraits.is_honest l.initial.store) → InTurn g.S.ReadableStorageTraits (array_of g.C.ArrayToBytesCodecTraits l.self) (first_keyed (array_of g.C.ArrayToBytesCodecTraits l.self) (g.S.ReadableStorageTraits.held l.initial.store) (region_of l.chunks) l.n) l.initial.store l.store;
  few : l.applied ≤ l.n;
  honest : g.S.ReadableStorageTraits.is_honest l.store ≡ g.S.ReadableStorageTraits.is_honest l.initial.store;
  refused : g.S.ReadableStorageTraits.refused_calls l.store ≡ g.S.ReadableStorageTraits.refused_calls l.initial.store;
  counts : CountsUpTo l.applied (g.S.ReadableStorageTraits.accepted_writes l.initial.store) (g.S.ReadableStorageTraits.accepted_writes l.store);
}
