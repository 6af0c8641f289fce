use Rattle.std.proofs.Common.{length, string_bytes}
use denote.Text.{Utf8}
use denote.Shadow.{shadow}
use Rattle.zarr_run_opening.specs.ChunkKeys.{IsChunkKeyAt}
use Rattle.zarr_run_opening.proofs.TakenLemmas.{IsReachedFrom}
use Rattle.zarr_run_opening.proofs.chunk_keys.is_chunk_key.Given as goal

-- the paths above the lower one are those above the path where an array may still have such a chunk
abbrev pub invariant-loop-parent : goal.invariant-loop-parent
invariant-loop-parent g l = shadow (Utf8 l.lower) × IsReachedFrom (IsChunkKeyAt g.B.BytesToBytesCodecTraits.meaning l.arrays (string_bytes l.key)) l.path l.lower

abbrev pub decreases-loop-parent : goal.decreases-loop-parent
decreases-loop-parent g l = length l.lower
