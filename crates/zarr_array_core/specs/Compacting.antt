-- Why a chunk is not compacted.
use Rattle.std.specs.Prelude.{◌≡◌, ◌⊎◌, ℕ, List, Option, Some, None, true, false, Result, Ok, Err, Vec}
use Rattle.std.specs.declared.alloc.Global.{Global}
use Rattle.zarr_grids_boxes.specs.Boxes.{Region}
use Rattle.zarr_grids_chunks.specs.Grids.{IsInGrid}
use Rattle.zarr_codecs_meaning.specs.Fits.{fits}
use Rattle.zarr_sharding_changes.specs.Compactions.{compaction, nothing_to_gain, compacted_to, damaged}
use Rattle.zarr_sharding_changes.specs.Refusals.{CompactionRefused, CompactionTooLong}
use Rattle.zarr_array_meaning.specs.Arrays.{Array, value_at}
use Rattle.zarr_array_meaning.specs.Documents.{Document}
use Rattle.zarr_array_meaning.specs.StoreMaps.{StoreMap}
use Rattle.zarr_array_core.specs.Outcomes.{IsErasureStop, IsStoreRefusal}
use Rattle.zarr_array_core.specs.declared.error.ChunkError.{ChunkError}
use Rattle.zarr_array_core.specs.declared.error.ChunkError.TheVariants as error

-- why a value of a chunk of this shape is not compacted
abbrev pub CompactionStops : Document → List ℕ → List ℕ → ChunkError → Type 0
CompactionStops document shape value error.Fit = fits document.chain document.elements.type shape ≡ false
CompactionStops document shape value error.Damage = (fits document.chain document.elements.type shape ≡ true) × (compaction document.chain shape value ≡ damaged)
CompactionStops document shape value error.Codec = (fits document.chain document.elements.type shape ≡ true) × CompactionRefused document.chain shape value
CompactionStops document shape value error.Size = (fits document.chain document.elements.type shape ≡ true) × CompactionTooLong document.chain shape value
CompactionStops document shape value e = ⊥

-- what compacting makes of a value of a chunk of this shape, if anything is gained, or why it makes nothing
abbrev pub CompactsValue : Document → List ℕ → List ℕ → Result (Option (Vec ℕ Global)) ChunkError → Type 0
CompactsValue document shape value (Ok None) = (fits document.chain document.elements.type shape ≡ true) × (compaction document.chain shape value ≡ nothing_to_gain)
CompactsValue document shape value (Ok (Some made)) = (fits document.chain document.elements.type shape ≡ true) × (compaction document.chain shape value ≡ compacted_to made.items)
CompactsValue document shape value (Err error.Memory) = Unit {0}
CompactsValue document shape value (Err e) = CompactionStops document shape value e

-- what compacting makes of what is stored for a chunk of this shape, if anything is stored and gained, or why it makes nothing: the store may refuse to give it
abbrev pub CompactsStored : Document → List ℕ → Option (List ℕ) → Result (Option (Vec ℕ Global)) ChunkError → Type 0
CompactsStored document shape None (Ok made) = made ≡ None
CompactsStored document shape None (Err e) = IsErasureStop e
CompactsStored document shape (Some value) (Ok made) = CompactsValue document shape value (Ok made)
CompactsStored document shape (Some value) (Err e) = IsErasureStop e ⊎ CompactsValue document shape value (Err e)

-- what is stored for a chunk is not compacted
pub record NotCompacted (array : Array) (chunk : List ℕ) (e : ChunkError) (store : StoreMap) : Type 0 where
  pub box : Region
  pub below : IsInGrid array.document.grid chunk box
  pub value : List ℕ
  pub stored : value_at array store chunk ≡ Some value
  pub stops : CompactionStops array.document box.shape value e

-- why a chunk is not compacted: the store refuses, memory ran out, or what is stored stops it
abbrev pub CompactStops : Array → List ℕ → ChunkError → StoreMap → Type 0
CompactStops array chunk (error.Storage e) store = IsStoreRefusal e
CompactStops array chunk error.Memory store = Unit {0}
CompactStops array chunk e store = NotCompacted array chunk e store
