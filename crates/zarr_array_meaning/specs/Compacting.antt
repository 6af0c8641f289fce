-- What compacting a chunk makes of what is stored for it.
use Rattle.std.specs.Prelude.{◌≡◌, ℕ, List, [], ◌∷◌, Option, Some, None, Bool, true, false}
use Rattle.zarr_grids_boxes.specs.Boxes.{Region, is_in_box}
use Rattle.zarr_grids_chunks.specs.Grids.{IsInGrid}
use Rattle.zarr_codecs_meaning.specs.Fits.{fits}
use Rattle.zarr_sharding_changes.specs.Compactions.{compaction, nothing_to_gain, compacted_to}
use Rattle.zarr_array_meaning.specs.Arrays.{Array, value_at}
use Rattle.zarr_array_meaning.specs.Chunks.{part_at, KeepsOtherKeys}
use Rattle.zarr_array_meaning.specs.Documents.{Document}
use Rattle.zarr_array_meaning.specs.Standing.{IsLossless}
use Rattle.zarr_array_meaning.specs.StoreMaps.{StoreMap}

-- what compacting makes of what is stored for a chunk of this shape, and whether that changed: where nothing is stored, and where nothing is gained, it stays
abbrev pub IsCompacted : Document → List ℕ → Bool → Option (List ℕ) → Option (List ℕ) → Type 0
IsCompacted document shape changed None new = (changed ≡ false) × (new ≡ None)
IsCompacted document shape true (Some value) new =
    (fits document.chain document.elements.type shape ≡ true) × ((made : List ℕ) × (compaction document.chain shape value ≡ compacted_to made) × (new ≡ Some made))
IsCompacted document shape false (Some value) new = (fits document.chain document.elements.type shape ≡ true) × (compaction document.chain shape value ≡ nothing_to_gain) × (new ≡ Some value)

-- a chunk in the grid was compacted. Where the chain keeps every bit, each of its places is read as before, whatever is stored; and no other key changed
pub record CompactsChunk (array : Array) (chunk : List ℕ) (changed : Bool) (old new : StoreMap) : Type 0 where
  pub box : Region
  pub below : IsInGrid array.document.grid chunk box
  pub is : IsCompacted array.document box.shape changed (value_at array old chunk) (value_at array new chunk)
  pub shows : IsLossless array.document → (place : List ℕ) → is_in_box box.start box.shape place ≡ true
      → part_at array.document box (value_at array new chunk) place ≡ part_at array.document box (value_at array old chunk) place
  pub others : KeepsOtherKeys array.path array.document (chunk ∷ []) old new
