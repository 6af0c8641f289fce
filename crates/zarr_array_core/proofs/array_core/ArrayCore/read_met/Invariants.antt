use Rattle.std.proofs.Common.{◌≡◌, IsTrue, length}
use Rattle.zarr_grids_boxes.specs.Subsets.{region_of}
use Rattle.zarr_array_elements.specs.Views.{AreShown, cells_shown}
use Rattle.zarr_array_core.specs.Arrays.{array_of}
use Rattle.zarr_array_core.specs.Views.{document_of}
use Rattle.zarr_array_core.proofs.NthChunks.{first_chunks}
use Rattle.zarr_array_core.proofs.ReadSoFar.{ReadSoFar}
use Rattle.zarr_array_core.proofs.array_core.ArrayCore.read_met.Given as goal

abbrev pub invariant-loop-found : goal.invariant-loop-found
invariant-loop-found g l = record {
  shown : AreShown (document_of g.C.ArrayToBytesCodecTraits.meaning l.self).elements (region_of l.read.region.now) l.target;
  read : IsTrue (g.S.ReadableStorageTraits.is_honest l.fn.store) → ReadSoFar (array_of g.C.ArrayToBytesCodecTraits l.self) (g.S.ReadableStorageTraits.held l.fn.store) (region_of l.read.region.now)
      (first_chunks (region_of l.read.chunks.now) (length l.yielded)) (cells_shown (document_of g.C.ArrayToBytesCodecTraits.meaning l.self).elements l.target);
  stopped : l.stopped ≡ l.initial.stopped;
}
