-- What a compaction of one chunk answers and leaves.
use Rattle.std.specs.Prelude.{◌≡◌, ◌⊎◌, ℕ, List, Bool}
use Rattle.zarr_grids_boxes.specs.Boxes.{Region}
use Rattle.zarr_grids_chunks.specs.Grids.{IsInGrid}
use Rattle.zarr_array_meaning.specs.Arrays.{Array}
use Rattle.zarr_array_meaning.specs.Compacting.{CompactsChunk}
use Rattle.zarr_array_meaning.specs.Documents.{Document}
use Rattle.zarr_array_meaning.specs.StoreMaps.{StoreMap}
use Rattle.zarr_run_meaning.specs.declared.cause.Cause.{Cause}
use Rattle.zarr_run_meaning.specs.declared.cause.Cause.TheVariants as cause
use Rattle.zarr_run_meaning.specs.Causes.{IsTooLargeChunk, CompactRefuses}
use Rattle.zarr_run_boxes.specs.Outcomes.{ChunkRefused}

-- a chunk in the grid is not too large
pub record IsSmallChunk (document : Document) (chunk : List ℕ) : Type 0 where
  pub box : Region
  pub below : IsInGrid document.grid chunk box
  pub small : ¬ IsTooLargeChunk document chunk

-- why a chunk is none in the grid that is not too large, or memory is short
abbrev pub SmallChunkRefused : Document → List ℕ → Cause → Type 0
SmallChunkRefused document chunk c = ChunkRefused document chunk c ⊎ ((c ≡ cause.Size) × IsTooLargeChunk document chunk)

-- a chunk in the grid was compacted, or stays
pub record CompactsTarget (array : Array) (chunk : List ℕ) (changed : Bool) (old new : StoreMap) : Type 0 where
  pub small : ¬ IsTooLargeChunk array.document chunk
  pub compacts : CompactsChunk array chunk changed old new

-- a compaction was refused, or memory was short
abbrev pub CompactRefused : Array → List ℕ → Cause → StoreMap → Type 0
CompactRefused array chunk c store = CompactRefuses array store chunk c ⊎ (c ≡ cause.Memory)
