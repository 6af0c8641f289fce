use Rattle.std.proofs.Common.{◌≡◌, ℕ, ◌+◌, ◌*◌, ◌^◌, ◌<◌, List, take, length, Option, Some}
use Rattle.zarr_codecs_meaning.specs.Encoding.{joined_slices}
use Rattle.zarr_sharding_changes.specs.Compaction.{slices_of}
use Rattle.zarr_sharding_index.specs.Views.{pairs_of}
use Rattle.zarr_sharding_compaction.proofs.slices.present_length.Given as goal

-- the slices so far, and how many bytes they have
abbrev pub invariant-loop-n : goal.invariant-loop-n
invariant-loop-n l = record {
  slices : (stored : List (Option (List ℕ))) × (slices_of l.sliced.base l.sliced.data.now (take l.n (pairs_of l.sliced.index.now)) ≡ Some stored) × (l.total ≡ length (joined_slices stored));
  bound : l.total < (l.n + 1) * 2 ^ 63;
}
