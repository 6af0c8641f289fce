-- Why the chunks of an array are not stored anew.
use Rattle.std.specs.Prelude.{◌≡◌, ◌⊎◌, ℕ, ◌+◌, ◌≤◌, List, take, length, slice_get, Some, None, is_some, Bool, true, false, if◌then◌else◌}
use Rattle.zarr_grids_boxes.specs.Boxes.{Region, product}
use Rattle.zarr_grids_chunks.specs.Grids.{IsInGrid}
use Rattle.zarr_codecs_meaning.specs.Decoding.{decoded}
use Rattle.zarr_codecs_meaning.specs.Fits.{fits}
use Rattle.zarr_codecs_meaning.specs.Types.{Cell, IsTooLarge}
use Rattle.zarr_array_meaning.specs.Arrays.{Array, value_at}
use Rattle.zarr_array_meaning.specs.Documents.{Document}
use Rattle.zarr_array_meaning.specs.Rewriting.{RewroteChunks, keyed_chunks}
use Rattle.zarr_array_meaning.specs.StoreMaps.{StoreMap}
use Rattle.zarr_array_core.specs.ChunkValues.{EncodeStops}
use Rattle.zarr_array_core.specs.Outcomes.{IsStoreRefusal}
use Rattle.zarr_array_core.specs.declared.error.ChunkError.{ChunkError}
use Rattle.zarr_array_core.specs.declared.error.ChunkError.TheVariants as error
use Rattle.zarr_array_core.specs.declared.error.ManyError.{ManyError}

-- the cells that a value of a chunk of this shape is decoded to are not encoded
pub record NotEncodedAgain (document : Document) (store_empty : Bool) (shape value : List ℕ) (e : ChunkError) : Type 0 where
  pub fit : fits document.chain document.elements.type shape ≡ true
  pub cells : List Cell
  pub decodes : decoded document.chain document.elements shape value ≡ Some cells
  pub stops : EncodeStops document store_empty shape cells e

-- why a value of a chunk of this shape is not stored anew
abbrev pub RewritingStops : Document → Bool → List ℕ → List ℕ → ChunkError → Type 0
RewritingStops document store_empty shape value error.Fit = fits document.chain document.elements.type shape ≡ false
RewritingStops document store_empty shape value error.Damage = (fits document.chain document.elements.type shape ≡ true) × (decoded document.chain document.elements shape value ≡ None)
RewritingStops document store_empty shape value error.Codec = NotEncodedAgain document store_empty shape value error.Codec
RewritingStops document store_empty shape value error.Size = IsTooLarge document.elements.type (product shape) ⊎ NotEncodedAgain document store_empty shape value error.Size
RewritingStops document store_empty shape value e = ⊥

-- what is stored for a chunk is not stored anew
pub record ChunkNotRewritten (array : Array) (store_empty : Bool) (chunk : List ℕ) (e : ChunkError) (store : StoreMap) : Type 0 where
  pub box : Region
  pub below : IsInGrid array.document.grid chunk box
  pub value : List ℕ
  pub stored : value_at array store chunk ≡ Some value
  pub stops : RewritingStops array.document store_empty box.shape value e

-- why a chunk is not stored anew: the store refuses, memory ran out, or what is stored stops it
abbrev pub ChunkRewriteStops : Array → Bool → List ℕ → ChunkError → StoreMap → Type 0
ChunkRewriteStops array store_empty chunk (error.Storage e) store = IsStoreRefusal e
ChunkRewriteStops array store_empty chunk error.Memory store = Unit {0}
ChunkRewriteStops array store_empty chunk e store = ChunkNotRewritten array store_empty chunk e store

-- why a value of a chunk of this shape is not made anew
abbrev pub RemakingStops : Document → Bool → List ℕ → List ℕ → ChunkError → Type 0
RemakingStops document store_empty shape value error.Memory = Unit {0}
RemakingStops document store_empty shape value e = RewritingStops document store_empty shape value e

-- a chunk has no key, and nothing changes
abbrev pub IsAbsentAt : Array → List ℕ → StoreMap → StoreMap → Type 0
IsAbsentAt array chunk old new = (value_at array old chunk ≡ None) × (new ≡ old)

-- how many chunks were stored anew, after one more was looked at
abbrev pub counted_chunk : ℕ → Bool → ℕ
counted_chunk applied had = if had then applied + 1 else applied

-- whether a chunk has a key and is too large
abbrev pub IsLargeKeyedAt : Array → List ℕ → StoreMap → Type 0
IsLargeKeyedAt array chunk store = (box : Region) × IsInGrid array.document.grid chunk box × (is_some (value_at array store chunk) ≡ true) × IsTooLarge array.document.elements.type (product box.shape)

-- the chunk at this place among those that have a key is not stored anew
pub record NotRewritten (array : Array) (store_empty : Bool) (stopped : ManyError) (store : StoreMap) : Type 0 where
  pub chunk : List ℕ
  pub nth : slice_get (keyed_chunks array store) stopped.applied ≡ Some chunk
  pub box : Region
  pub below : IsInGrid array.document.grid chunk box
  pub value : List ℕ
  pub stored : value_at array store chunk ≡ Some value
  pub stops : RewritingStops array.document store_empty box.shape value stopped.error

-- why a walk over the chunks stops: the store refuses or memory ran out, also where it is asked for a chunk that has no key, or the next chunk that has one is not stored anew
abbrev pub WalkStops : Array → Bool → ManyError → StoreMap → ChunkError → Type 0
WalkStops array store_empty stopped store (error.Storage e) = (stopped.applied ≤ length (keyed_chunks array store)) × IsStoreRefusal e
WalkStops array store_empty stopped store error.Memory = stopped.applied ≤ length (keyed_chunks array store)
WalkStops array store_empty stopped store e = NotRewritten array store_empty stopped store

-- exactly the first of the chunks that have a key were stored anew, and why no more were
pub record RewriteStops (array : Array) (store_empty : Bool) (stopped : ManyError) (old new : StoreMap) : Type 0 where
  pub stops : WalkStops array store_empty stopped old stopped.error
  pub rewrote : RewroteChunks array store_empty (take stopped.applied (keyed_chunks array old)) old new
