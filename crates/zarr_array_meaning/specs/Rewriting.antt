-- What a rewrite makes of the chunks of an array: those that have a key are read and stored anew, whole.
use Rattle.std.specs.Prelude.{◌≡◌, ◌⊎◌, ℕ, ◌^◌, ◌≤◌, List, map, length, Option, Some, is_some, Bool, IsTrue, true, not, ◌||◌}
use Rattle.std.specs.List.{filter}
use Rattle.zarr_grids_boxes.specs.Boxes.{Region, product, places, is_in_box}
use Rattle.zarr_grids_chunks.specs.Grids.{IsInGrid}
use Rattle.zarr_grids_cover.specs.Boxed.{boxed_chunks}
use Rattle.zarr_codecs_meaning.specs.Decoding.{decoded}
use Rattle.zarr_codecs_meaning.specs.Encoding.{encoded, stored_chunk}
use Rattle.zarr_codecs_meaning.specs.Fits.{fits}
use Rattle.zarr_codecs_meaning.specs.Standing.{ChunkStands}
use Rattle.zarr_codecs_meaning.specs.Types.{Cell, is_fill, IsTooLarge}
use Rattle.zarr_array_meaning.specs.Arrays.{Array, value_at}
use Rattle.zarr_array_meaning.specs.Chunks.{part_at, is_listed, KeepsOtherKeys}
use Rattle.zarr_array_meaning.specs.Standing.{IsLossless}
use Rattle.zarr_array_meaning.specs.StoreMaps.{StoreMap}

-- the chunks in the grid that have a box and a key, row-major
abbrev pub keyed_chunks : Array → StoreMap → List (List ℕ)
keyed_chunks array store = filter (λ chunk. is_some (value_at array store chunk)) (boxed_chunks array.document.grid)

-- a value of a chunk of this shape is decoded, and its cells are stored anew as a whole: without a key where they are all fill, unless empty chunks are stored. The new value is what encoding makes of the cells where that depends on them alone
pub record IsRewritten (array : Array) (store_empty : Bool) (shape old : List ℕ) (new : Option (List ℕ)) : Type 0 where
  pub fit : fits array.document.chain array.document.elements.type shape ≡ true
  pub cells : List Cell
  pub decodes : decoded array.document.chain array.document.elements shape old ≡ Some cells
  pub key : is_some new ≡ (store_empty || not (is_fill array.document.elements.fill cells))
  pub encodes : IsTrue array.exact → (value : List ℕ) → new ≡ Some value → encoded array.document.chain array.document.elements shape cells ≡ Some value
  pub stands : IsLossless array.document → ChunkStands array.document.chain array.document.elements shape new cells

-- each of these chunks had a value and is stored anew. Where the chain keeps every bit, each of their places is read as before, whatever was stored; and no other key changed
pub record RewroteChunks (array : Array) (store_empty : Bool) (chunks : List (List ℕ)) (old new : StoreMap) : Type 0 where
  pub each : (chunk : List ℕ) (box : Region) → IsInGrid array.document.grid chunk box → is_listed chunks chunk ≡ true
      → (value : List ℕ) × (value_at array old chunk ≡ Some value) × IsRewritten array store_empty box.shape value (value_at array new chunk)
  pub shows : IsLossless array.document → (chunk : List ℕ) (box : Region) (place : List ℕ) → IsInGrid array.document.grid chunk box → is_listed chunks chunk ≡ true → is_in_box box.start box.shape place ≡ true
      → part_at array.document box (value_at array new chunk) place ≡ part_at array.document box (value_at array old chunk) place
  pub others : KeepsOtherKeys array.path array.document chunks old new

-- a chunk that has a key has 2^63 cells or bytes or more
abbrev pub IsLargeKeyed : Array → StoreMap → Type 0
IsLargeKeyed array store =
    (chunk : List ℕ) × (box : Region) × IsInGrid array.document.grid chunk box × (is_some (value_at array store chunk) ≡ true) × IsTooLarge array.document.elements.type (product box.shape)

-- 2^63 chunks or more have a box, or one that has a key is too large
abbrev pub HasTooLargeKeyed : Array → StoreMap → Type 0
HasTooLargeKeyed array store = (2 ^ 63 ≤ length (boxed_chunks array.document.grid)) ⊎ IsLargeKeyed array store

-- ---- what storing cells afresh leaves

-- what is stored for a chunk is what storing its cells afresh leaves: no key where all of them are fill, else their encoding
abbrev pub IsCanonAt : Array → StoreMap → List ℕ → Region → (List ℕ → Cell) → Type 0
IsCanonAt array store chunk box cells =
    stored_chunk array.document.chain array.document.elements box.shape (map cells (places box.start box.shape)) ≡ Some (value_at array store chunk)

-- what is stored for each chunk in the grid is what storing its cells afresh leaves; a chunk that the chain doesn't fit has no key
abbrev pub IsCanon : Array → StoreMap → (List ℕ → Cell) → Type 0
IsCanon array store cells = (chunk : List ℕ) (box : Region) → IsInGrid array.document.grid chunk box
    → (fits array.document.chain array.document.elements.type box.shape ≡ true → IsCanonAt array store chunk box cells) × (is_some (value_at array store chunk) ≡ true → fits array.document.chain array.document.elements.type box.shape ≡ true)
