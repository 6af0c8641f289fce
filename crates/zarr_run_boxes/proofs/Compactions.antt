-- Chunks that are compacted: why they are not, as causes.
use Rattle.std.proofs.Common.{List, ℕ, refl, inl, inr}
use Rattle.zarr_array_core.specs.Compacting.{CompactionStops, NotCompacted, CompactStops}
use Rattle.zarr_array_core.specs.declared.error.ChunkError.{ChunkError}
use Rattle.zarr_array_core.specs.declared.error.ChunkError.TheVariants as error
use Rattle.zarr_array_meaning.specs.Arrays.{Array}
use Rattle.zarr_array_meaning.specs.Documents.{Document}
use Rattle.zarr_array_meaning.specs.StoreMaps.{StoreMap}
use Rattle.zarr_run_meaning.specs.Causes.{ValueRefuses, IsNotCompacted}
use Rattle.zarr_run_boxes.specs.Compacting.{IsSmallChunk, CompactRefused}
use Rattle.zarr_run_boxes.specs.Outcomes.{cause_of}

value_refuses : (document : Document) (shape value : List ℕ) (e : ChunkError) → CompactionStops document shape value e → ValueRefuses document shape value (cause_of e)
value_refuses document shape value error.Fit stops = stops
value_refuses document shape value (error.Storage e) stops = absurd stops
value_refuses document shape value error.Damage stops = stops
value_refuses document shape value error.Codec stops = stops
value_refuses document shape value error.Size stops = stops
value_refuses document shape value error.Memory stops = absurd stops

not_compacted : (array : Array) (chunk : List ℕ) (store : StoreMap) (e : ChunkError) → IsSmallChunk array.document chunk → NotCompacted array chunk e store → IsNotCompacted array store chunk (cause_of e)
not_compacted array chunk store e small n = record {
  box = n.box;
  below = n.below;
  small = λ large. small.small (n.box, n.below, large);
  value = n.value;
  stored = n.stored;
  refuses = value_refuses array.document n.box.shape n.value e n.stops;
}

-- why a chunk that is not too large is not compacted
pub compact_refused : (array : Array) (chunk : List ℕ) (store : StoreMap) (e : ChunkError) → IsSmallChunk array.document chunk → CompactStops array chunk e store → CompactRefused array chunk (cause_of e) store
compact_refused array chunk store error.Fit small stops = inl (not_compacted array chunk store error.Fit small stops)
compact_refused array chunk store (error.Storage e) small stops = inl (small.box, small.below, λ large. small.small (small.box, small.below, large))
compact_refused array chunk store error.Damage small stops = inl (not_compacted array chunk store error.Damage small stops)
compact_refused array chunk store error.Codec small stops = inl (not_compacted array chunk store error.Codec small stops)
compact_refused array chunk store error.Size small stops = inl (inr (not_compacted array chunk store error.Size small stops))
compact_refused array chunk store error.Memory small stops = inr refl
