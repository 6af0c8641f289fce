-- What compacting one chunk leaves of a store.
use Rattle.std.proofs.Common.{◌≡◌, ◌∙◌, ℕ, true, false, List, [], ◌∷◌, refl, sym, ap, subst, Option, Some, None, Vec, Ok, Err, inl, inr}
use Rattle.std.specs.FinMap.{insert}
use Rattle.std.specs.declared.alloc.Global.{Global}
use Rattle.zarr_grids_boxes.specs.Boxes.{Region}
use Rattle.zarr_grids_chunks.specs.Grids.{IsInGrid}
use Rattle.zarr_grids_keys.specs.Keys.{chunk_key}
use Rattle.zarr_codecs_meaning.specs.Chunks.{chunk_part}
use Rattle.zarr_codecs_meaning.specs.Fits.{fits}
use Rattle.zarr_codecs_meaning.specs.Types.{Cell}
use Rattle.zarr_sharding_changes.specs.Compactions.{compaction, nothing_to_gain, compacted_to}
use Rattle.zarr_sharding_values.proofs.Shown.{chain_compacted_shows}
use Rattle.zarr_array_meaning.specs.Arrays.{Array, value_at}
use Rattle.zarr_array_meaning.specs.Chunks.{number_in}
use Rattle.zarr_array_meaning.specs.Compacting.{CompactsChunk, IsCompacted}
use Rattle.zarr_array_meaning.specs.StoreMaps.{StoreMap}
use Rattle.zarr_array_core.specs.Compacting.{CompactsStored, CompactsValue, CompactStops}
use Rattle.zarr_array_core.specs.Outcomes.{IsErasureStop}
use Rattle.zarr_array_core.specs.declared.error.ChunkError.{ChunkError}
use Rattle.zarr_array_core.specs.declared.error.ChunkError.TheVariants as error
use Rattle.zarr_array_core.proofs.ChunkWritten.{value_same, value_other}
use Rattle.zarr_array_core.proofs.Listed.{one_listed}
use Rattle.zarr_array_core.proofs.Rewritten.{IsArray}

-- the chunk gets the value of its slices without gaps
pub compacted_chunk : (array : Array) (chunk : List ℕ) (box : Region) (value made : List ℕ) (old : StoreMap) → IsArray array → IsInGrid array.document.grid chunk box → value_at array old chunk ≡ Some value → fits array.document.chain array.document.elements.type box.shape ≡ true
    → compaction array.document.chain box.shape value ≡ compacted_to made → CompactsChunk array chunk true old (insert old (chunk_key array.path array.document.keys chunk) made)
compacted_chunk array chunk box value made old known below stored fit what = record {
  box = box;
  below = below;
  is = subst (λ (o : Option (List ℕ)). IsCompacted array.document box.shape true o (value_at array new chunk)) (sym stored) (fit, (made, what, now));
  shows = λ lossless place inside.
      ap (read place) now
      ∙ (chain_compacted_shows array.document.chain array.document.elements box.shape value made (number_in box place ∷ []) known.good.lawful fit lossless what
      ∙ ap (read place) (sym stored));
  others = λ key ne. value_other old (chunk_key array.path array.document.keys chunk) key (Some made) (ne chunk (one_listed chunk chunk refl));
} where
  new : StoreMap
  new = insert old (chunk_key array.path array.document.keys chunk) made

  now : value_at array new chunk ≡ Some made
  now = value_same old (chunk_key array.path array.document.keys chunk) (Some made)

  read : List ℕ → Option (List ℕ) → Option (List Cell)
  read place o = chunk_part array.document.chain array.document.elements box.shape o (number_in box place ∷ [])

-- nothing is stored, or nothing is gained
stays_so : (array : Array) (chunk : List ℕ) (box : Region) (store : StoreMap) → IsInGrid array.document.grid chunk box → IsCompacted array.document box.shape false (value_at array store chunk) (value_at array store chunk) → CompactsChunk array chunk false store store
stays_so array chunk box store below is = record { box = box; below = below; is = is; shows = λ lossless place inside. refl; others = λ key ne. refl }

pub none_compacted : (array : Array) (chunk : List ℕ) (box : Region) (store : StoreMap) → IsInGrid array.document.grid chunk box → value_at array store chunk ≡ None → CompactsChunk array chunk false store store
none_compacted array chunk box store below none = stays_so array chunk box store below (subst (λ (o : Option (List ℕ)). IsCompacted array.document box.shape false o o) (sym none) (refl, refl))

pub nothing_gained : (array : Array) (chunk : List ℕ) (box : Region) (value : List ℕ) (store : StoreMap) → IsInGrid array.document.grid chunk box → value_at array store chunk ≡ Some value → fits array.document.chain array.document.elements.type box.shape ≡ true
    → compaction array.document.chain box.shape value ≡ nothing_to_gain → CompactsChunk array chunk false store store
nothing_gained array chunk box value store below stored fit what = stays_so array chunk box store below (subst (λ (o : Option (List ℕ)). IsCompacted array.document box.shape false o o) (sym stored) (fit, what, refl))

-- ---- a value that is not compacted
pub compact_stops : (array : Array) (chunk : List ℕ) (box : Region) (value : List ℕ) (store : StoreMap) (e : ChunkError) → IsInGrid array.document.grid chunk box → value_at array store chunk ≡ Some value → CompactsValue array.document box.shape value (Err e) → CompactStops array chunk e store
compact_stops array chunk box value store error.Fit below stored is = record { box = box; below = below; value = value; stored = stored; stops = is }
compact_stops array chunk box value store (error.Storage s) below stored is = absurd is
compact_stops array chunk box value store error.Damage below stored is = record { box = box; below = below; value = value; stored = stored; stops = is }
compact_stops array chunk box value store error.Codec below stored is = record { box = box; below = below; value = value; stored = stored; stops = is }
compact_stops array chunk box value store error.Size below stored is = record { box = box; below = below; value = value; stored = stored; stops = is }
compact_stops array chunk box value store error.Memory below stored is = tt

pub store_stops : (array : Array) (chunk : List ℕ) (e : ChunkError) (store : StoreMap) → IsErasureStop e → CompactStops array chunk e store
store_stops array chunk error.Fit store is = absurd is
store_stops array chunk (error.Storage s) store is = is
store_stops array chunk error.Damage store is = absurd is
store_stops array chunk error.Codec store is = absurd is
store_stops array chunk error.Size store is = absurd is
store_stops array chunk error.Memory store is = tt

-- ---- what is stored, wherever it was read
pub stored_stops : (array : Array) (chunk : List ℕ) (box : Region) (store : StoreMap) (e : ChunkError) → IsInGrid array.document.grid chunk box → (o : Option (List ℕ)) → value_at array store chunk ≡ o → CompactsStored array.document box.shape o (Err e) → CompactStops array chunk e store
stored_stops array chunk box store e below None stored h = store_stops array chunk e store h
stored_stops array chunk box store e below (Some value) stored (inl h) = store_stops array chunk e store h
stored_stops array chunk box store e below (Some value) stored (inr h) = compact_stops array chunk box value store e below stored h

pub stored_stays : (array : Array) (chunk : List ℕ) (box : Region) (store : StoreMap) → IsInGrid array.document.grid chunk box → (o : Option (List ℕ)) → value_at array store chunk ≡ o → CompactsStored array.document box.shape o (Ok None) → CompactsChunk array chunk false store store
stored_stays array chunk box store below None stored h = none_compacted array chunk box store below stored
stored_stays array chunk box store below (Some value) stored h = nothing_gained array chunk box value store below stored h.0 h.1

pub stored_compacted : (array : Array) (chunk : List ℕ) (box : Region) (made : Vec ℕ Global) (store : StoreMap) → IsArray array → IsInGrid array.document.grid chunk box → (o : Option (List ℕ)) → value_at array store chunk ≡ o → CompactsStored array.document box.shape o (Ok (Some made))
    → CompactsChunk array chunk true store (insert store (chunk_key array.path array.document.keys chunk) made.items)
stored_compacted array chunk box made store known below None stored h = absurd (cc)
stored_compacted array chunk box made store known below (Some value) stored h = compacted_chunk array chunk box value made.items store known below stored h.0 h.1
