-- What calls over the chunks of an array answer and leave.
use Rattle.std.specs.Prelude.{◌≡◌, ◌⊎◌, ℕ, ◌<◌, List, take, length, Option, Some, Result, Ok, Err, true, false}
use Rattle.zarr_grids_boxes.specs.Boxes.{Region, product, places}
use Rattle.zarr_grids_chunks.specs.Grids.{IsInGrid, intersecting, intersects}
use Rattle.zarr_codecs_meaning.specs.Payloads.{Payload, cells_in}
use Rattle.zarr_codecs_meaning.specs.Types.{Cell, IsTooLarge}
use Rattle.zarr_array_meaning.specs.Arrays.{Array, value_at}
use Rattle.zarr_array_meaning.specs.Boxes.{IsRead, IsDamagedIn, IsUnfitIn}
use Rattle.zarr_array_meaning.specs.Chunks.{IsNthIntersecting, fits_box}
use Rattle.zarr_array_meaning.specs.Documents.{Document}
use Rattle.zarr_array_meaning.specs.StoreMaps.{StoreMap, counted}
use Rattle.zarr_array_meaning.specs.Writes.{Write}
use Rattle.zarr_array_meaning.specs.Writing.{IsPartDamaged, LacksRoom, IsCodecRefused, IsOversized, WroteChunks, ErasedChunks}
use Rattle.zarr_array_storage.specs.Refusals.{is_counted}
use Rattle.zarr_array_storage.specs.declared.error.StorageError.{StorageError}
use Rattle.zarr_array_core.specs.declared.error.ChunkError.{ChunkError}
use Rattle.zarr_array_core.specs.declared.error.ChunkError.TheVariants as error
use Rattle.zarr_array_core.specs.declared.error.ManyError.{ManyError}

-- a box of places, and each chunk that it intersects, has fewer than 2^63 elements and bytes
pub record IsSmall (document : Document) (region : Region) : Type 0 where
  pub whole : ¬ IsTooLarge document.elements.type (product region.shape)
  pub chunks : (chunk : List ℕ) (box : Region) → IsInGrid document.grid chunk box → intersects document.grid region chunk ≡ true → ¬ IsTooLarge document.elements.type (product box.shape)

-- a payload is the cells of a box, as they are read from a store
pub record GivesBox (path : List ℕ) (document : Document) (store : StoreMap) (region : Region) (payload : Payload) : Type 0 where
  pub cells : List Cell
  pub lists : cells_in document.elements.type payload ≡ Some cells
  pub read : IsRead path document store region cells

-- an error of a store as the refusal of a call: it is never want of memory, which has its own cause, nor a wrong byte range
abbrev pub IsStoreRefusal : StorageError → Type 0
IsStoreRefusal e = is_counted e ≡ true

-- why a box is not read
abbrev pub ReadStops : List ℕ → Document → StoreMap → Region → ChunkError → Type 0
ReadStops path document store region error.Fit = IsUnfitIn path document store region
ReadStops path document store region (error.Storage e) = IsStoreRefusal e
ReadStops path document store region error.Damage = IsDamagedIn path document store region
ReadStops path document store region error.Memory = Unit {0}
ReadStops path document store region e = ⊥

-- the count of refused store calls rises by one where the store refused, and else stays
abbrev pub refused_with : ChunkError → ℕ → ℕ
refused_with (error.Storage e) count = counted count 1
refused_with e count = count

-- the count of refused store calls after a call over chunks
abbrev pub refused_after : {A : Type 0} → ℕ → Result A ChunkError → ℕ
refused_after count (Ok value) = count
refused_after count (Err e) = refused_with e count

-- the count of refused store calls before and after a read with this error: one more where the store refused; with any other error it stays, or one more call was refused and what else was found comes first
abbrev pub CountsStop : ChunkError → ℕ → ℕ → Type 0
CountsStop (error.Storage e) before after = after ≡ counted before 1
CountsStop e before after = (after ≡ before) ⊎ (after ≡ counted before 1)

-- the count of refused store calls before and after a read: it stays where the read is done, and else is what its error says
abbrev pub CountsRead : {A : Type 0} → Result A ChunkError → ℕ → ℕ → Type 0
CountsRead (Ok value) before after = after ≡ before
CountsRead (Err e) before after = CountsStop e before after

-- the count of refused store calls after a call over several chunks
abbrev pub refused_by_many : {A : Type 0} → ℕ → Result A ManyError → ℕ
refused_by_many count (Ok value) = count
refused_by_many count (Err e) = refused_with e.error count

-- the cells of a write were written to each chunk that its box intersects
abbrev pub WritesMet : Write → StoreMap → StoreMap → Type 0
WritesMet write old new = WroteChunks write (intersecting write.array.document.grid write.region) old new

-- a payload is the cells of a write, and these were written
pub record WritesBox (write : Write) (payload : Payload) (old new : StoreMap) : Type 0 where
  pub lists : cells_in write.array.document.elements.type payload ≡ Some write.cells
  pub wrote : WritesMet write old new

-- why a chunk with this box, for which this is stored, is not written
abbrev pub ChunkStops : Write → Region → Option (List ℕ) → ChunkError → Type 0
ChunkStops write box stored error.Fit = fits_box write.array.document box ≡ false
ChunkStops write box stored (error.Storage e) = (fits_box write.array.document box ≡ true) × IsStoreRefusal e
ChunkStops write box stored error.Damage = IsPartDamaged write box stored ⊎ LacksRoom write box stored
ChunkStops write box stored error.Codec = IsCodecRefused write box stored
ChunkStops write box stored error.Size = IsOversized write box stored
ChunkStops write box stored error.Memory = Unit {0}

-- a payload is the cells of a write; these were written to the first of the chunks that its box intersects, and why the next one was not written
pub record WriteStops (write : Write) (payload : Payload) (old new : StoreMap) (stopped : ManyError) : Type 0 where
  pub lists : cells_in write.array.document.elements.type payload ≡ Some write.cells
  pub chunk : List ℕ
  pub box : Region
  pub nth : IsNthIntersecting write.array.document.grid write.region stopped.applied chunk box
  pub stops : ChunkStops write box (value_at write.array old chunk) stopped.error
  pub wrote : WroteChunks write (take stopped.applied (intersecting write.array.document.grid write.region)) old new

-- how many chunks a box intersects
abbrev pub chunks_met : Document → Region → ℕ
chunks_met document region = length (intersecting document.grid region)

-- why a call of the store, and so an erasure of a chunk, stops
abbrev pub IsErasureStop : ChunkError → Type 0
IsErasureStop (error.Storage e) = IsStoreRefusal e
IsErasureStop error.Memory = Unit {0}
IsErasureStop e = ⊥

-- the first of the chunks of an array were erased, and why the next one was not
pub record EraseStops (array : Array) (chunks : Region) (old new : StoreMap) (stopped : ManyError) : Type 0 where
  pub fewer : stopped.applied < product chunks.shape
  pub stops : IsErasureStop stopped.error
  pub erased : ErasedChunks array.path array.document (take stopped.applied (places chunks.start chunks.shape)) old new
