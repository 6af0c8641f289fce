use Rattle.std.proofs.Common.{◌≡◌, IsTrue}
use Rattle.zarr_grids_boxes.specs.Subsets.{region_of}
use Rattle.zarr_array_meaning.specs.Writing.{ErasedChunks}
use Rattle.zarr_array_core.specs.Arrays.{array_of}
use Rattle.zarr_array_core.specs.Turns.{InTurn}
use Rattle.zarr_array_core.specs.Views.{document_of, path_of}
use Rattle.zarr_array_meaning.specs.StoreMaps.{CountsUpTo}
use Rattle.zarr_array_core.proofs.NthChunks.{first_chunks}
use Rattle.zarr_array_core.proofs.array_core.ArrayCore.erase_region.Given as goal

abbrev pub invariant-loop-n : goal.invariant-loop-n
invariant-loop-n g l = record {
  erased : IsTrue (g.S.ReadableStorageTraits.is_honest l.initial.store) → ErasedChunks (path_of l.self) (document_of g.C.ArrayToBytesCodecTraits.meaning l.self) (first_chunks (region_of l.chunks) l.n) (g.S.ReadableStorageTraits.held l.initial.store) (g.S.ReadableStorageTraits.held l.store);
  turns : IsTrue (g.S.ReadableStorageTraits.is_honest l.initial.store) → InTurn g.S.ReadableStorageTraits (array_of g.C.ArrayToBytesCodecTraits l.self) (first_chunks (region_of l.chunks) l.n) l.initial.store l.store;
  honest : g.S.ReadableStorageTraits.is_honest l.store ≡ g.S.ReadableStorageTraits.is_honest l.initial.store;
  refused : g.S.ReadableStorageTraits.refused_calls l.store ≡ g.S.ReadableStorageTraits.refused_calls l.initial.store;
  counts : CountsUpTo l.n (g.S.ReadableStorageTraits.accepted_writes l.initial.store) (g.S.ReadableStorageTraits.accepted_writes l.store);
}
