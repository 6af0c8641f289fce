use Rattle.std.proofs.Common.{◌≡◌, length, sum_by}
use Rattle.zarr_grids_boxes.specs.Subsets.{region_of}
use Rattle.zarr_array_meaning.specs.ReadBytes.{box_read, most_at}
use Rattle.zarr_array_core.specs.Calls.{GivesAtMost}
use Rattle.zarr_array_core.specs.Fetching.{EachChunk, IsFetched, read_of}
use Rattle.zarr_array_core.specs.Views.{document_of, path_of}
use Rattle.zarr_array_core.proofs.NthChunks.{first_chunks}
use Rattle.zarr_array_core.proofs.array_core.ArrayCore.fetch_chunks.Given as goal

abbrev pub invariant-loop-n : goal.invariant-loop-n
invariant-loop-n g l = record {
  each : EachChunk (region_of l.read.chunks.now) (IsFetched (read_of g.C.ArrayToBytesCodecTraits g.S.ReadableStorageTraits l.self l.initial.store (region_of l.read.region.now))) l.chunks.items;
  long : length l.chunks.items ≡ l.n;
  held : g.S.ReadableStorageTraits.held l.store ≡ g.S.ReadableStorageTraits.held l.initial.store;
  honest : g.S.ReadableStorageTraits.is_honest l.store ≡ g.S.ReadableStorageTraits.is_honest l.initial.store;
  refused : g.S.ReadableStorageTraits.refused_calls l.store ≡ g.S.ReadableStorageTraits.refused_calls l.initial.store;
  accepted : g.S.ReadableStorageTraits.accepted_writes l.store ≡ g.S.ReadableStorageTraits.accepted_writes l.initial.store;
  given : GivesAtMost g.S.ReadableStorageTraits (sum_by (most_at (box_read (path_of l.self) (document_of g.C.ArrayToBytesCodecTraits.meaning l.self) (g.S.ReadableStorageTraits.held l.initial.store) (region_of l.read.region.now) l.read.options.now.workers)) (first_chunks (region_of l.read.chunks.now) l.n)) l.initial.store l.store;
}
