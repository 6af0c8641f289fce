-- Reads of the chunks that a box meets, fetched one after another and decoded later.
use Rattle.std.specs.Prelude.{◌≡◌, ◌<◌, ℕ, List, length, slice_get, Option, Some, None, Bool, true, IsTrue, IfSome, Result, Ok, Err}
use Rattle.zarr_grids_boxes.specs.Boxes.{Region, product, place_at}
use Rattle.zarr_grids_boxes.specs.Subsets.{region_of}
use Rattle.zarr_grids_chunks.specs.Grids.{IsInGrid, intersects}
use Rattle.zarr_codecs_meaning.specs.Types.{Cell, IsTooLarge}
use Rattle.zarr_codecs_arrays.specs.declared.error.CodecError.{CodecError}
use Rattle.zarr_codecs_arrays.specs.declared.error.CodecError.TheVariants as codec_error
use Rattle.zarr_codecs_traits.specs.declared.array_to_bytes.ArrayToBytesCodecTraits as codecs
use Rattle.zarr_array_meaning.specs.Arrays.{Array, value_at}
use Rattle.zarr_array_meaning.specs.Chunks.{holds_box}
use Rattle.zarr_array_meaning.specs.Documents.{Document}
use Rattle.zarr_array_meaning.specs.StoreMaps.{StoreMap}
use Rattle.zarr_array_storage.specs.declared.traits.ReadableStorageTraits as stores
use Rattle.zarr_array_core.specs.Arrays.{array_of}
use Rattle.zarr_array_core.specs.Outcomes.{CountsStop, IsStoreRefusal}
use Rattle.zarr_array_core.specs.Parts.{AreShared, FindsAt, GivesChunk, PartNotRead, met_in}
use Rattle.zarr_array_core.specs.declared.array_core.ArrayCore.{ArrayCore}
use Rattle.zarr_array_core.specs.declared.chunk_reading.ChunkPart.{ChunkPart}
use Rattle.zarr_array_core.specs.declared.error.ChunkError.{ChunkError}
use Rattle.zarr_array_core.specs.declared.error.ChunkError.TheVariants as error
use Rattle.zarr_array_core.specs.declared.fetching.FetchedChunk.{FetchedChunk}
use Rattle.zarr_array_core.specs.declared.fetching.FetchedChunk.TheVariants as fetched
use Rattle.zarr_array_core.specs.declared.fetching.FetchedChunks.{FetchedChunks}

-- ---- one chunk

-- a read of a region of an array from a store: what the store holds, which is what it gives where it is honest
pub record RegionRead : Type 0 where
  pub array : Array
  pub store : StoreMap
  pub region : Region
  pub honest : Bool

-- a read of a region of an array from a store, as the code has them
abbrev pub read_of : {C S : Type 0} → codecs.Ghosts C → stores.Ghosts S → ArrayCore C → S → Region → RegionRead
read_of c s array store region = record { array = array_of c array; store = s.held store; region = region; honest = s.is_honest store }

-- the elements that a chunk in the grid shares with a region, where there are any
abbrev pub AreOfChunk : Document → Region → List ℕ → Option ChunkPart → Type 0
AreOfChunk document region chunk found = IfSome found (λ part. (box : Region) × IsInGrid document.grid chunk box × AreShared document.elements.type region box part)

-- what was found of a chunk: the elements that it shares with the region, or that nothing is stored for it
pub record IsFound (read : RegionRead) (chunk : List ℕ) (found : Option ChunkPart) : Type 0 where
  pub shared : AreOfChunk read.array.document read.region chunk found
  pub is : IsTrue read.honest → FindsAt read.array read.store chunk found

-- a chunk that lies in the region, and its value
pub record IsValue (read : RegionRead) (chunk value : List ℕ) (own : Region) : Type 0 where
  pub below : IsInGrid read.array.document.grid chunk own
  pub shares : intersects read.array.document.grid read.region chunk ≡ true
  pub holds : holds_box read.region own ≡ true
  pub small : ¬ IsTooLarge read.array.document.elements.type (product own.shape)
  pub is : IsTrue read.honest → value_at read.array read.store chunk ≡ Some value

-- what was fetched of a chunk
abbrev pub IsFetched : RegionRead → List ℕ → FetchedChunk → Type 0
IsFetched read chunk (fetched.Value value own) = IsValue read chunk value.items (region_of own)
IsFetched read chunk (fetched.Part found) = IsFound read chunk found

-- an error that no store call is refused with
abbrev pub IsOfDecoding : ChunkError → Type 0
IsOfDecoding error.Fit = Unit {0}
IsOfDecoding error.Damage = Unit {0}
IsOfDecoding error.Memory = Unit {0}
IsOfDecoding e = ⊥

-- what is read of a chunk that was fetched, or why it is not read
abbrev pub FindsChunk : RegionRead → List ℕ → Result (Option ChunkPart) ChunkError → Type 0
FindsChunk read chunk (Ok found) = IsFound read chunk found
FindsChunk read chunk (Err e) = IsOfDecoding e × (IsTrue read.honest → PartNotRead read.array read.store read.region chunk e)

-- why a chunk is not read whose value its codecs do not decode: it is damaged, unless it does not fit them or memory ran out
abbrev pub stop_of : CodecError → ChunkError
stop_of codec_error.Fit = error.Fit
stop_of codec_error.Memory = error.Memory
stop_of e = error.Damage

-- why a part of a chunk that fits its codecs is not decoded, where these refuse for the first reason: the store refused, memory ran out, or what is stored is damaged
abbrev pub IsStopOf : CodecError → ChunkError → Type 0
IsStopOf codec_error.Source (error.Storage e) = IsStoreRefusal e
IsStopOf codec_error.Source e = ⊥
IsStopOf codec_error.Memory e = e ≡ error.Memory
IsStopOf c e = e ≡ error.Damage

-- what was fetched of a chunk of an array is decoded to what is read of the chunk, whatever read fetched it
abbrev pub DecodesFetched : Array → FetchedChunk → Result (Option ChunkPart) ChunkError → Type 0
DecodesFetched array item result = (read : RegionRead) (chunk : List ℕ) → read.array ≡ array → IsFetched read chunk item → FindsChunk read chunk result

-- what was found of a chunk is put over the cells of a region, whatever chunk and store it was found of
abbrev pub PutsFound : Array → Region → Option ChunkPart → List Cell → List Cell → Type 0
PutsFound array region found old new = (store : StoreMap) (chunk : List ℕ) (box : Region) → IsInGrid array.document.grid chunk box → intersects array.document.grid region chunk ≡ true
    → AreOfChunk array.document region chunk found → FindsAt array store chunk found → GivesChunk (met_in array store region chunk box) old new

-- ---- the chunks in a box of chunk indices, row-major

-- each item is that of the chunk with its number
abbrev pub EachChunk : {A : Type 0} → Region → (List ℕ → A → Type 0) → List A → Type 0
EachChunk {A = A} chunks holds items = (n : ℕ) (item : A) → slice_get items n ≡ Some item → holds (place_at chunks.start chunks.shape n) item

-- a read of chunks ended after so many: after all, or before one that is not read
abbrev pub EndsAfter : RegionRead → Region → ℕ → Option ChunkError → Type 0
EndsAfter read chunks n None = n ≡ product chunks.shape
EndsAfter read chunks n (Some e) = (n < product chunks.shape) × (IsTrue read.honest → PartNotRead read.array read.store read.region (place_at chunks.start chunks.shape n) e)

-- items of the first chunks, and why there are no more
pub record AreFirst {A : Type 0} (read : RegionRead) (chunks : Region) (holds : List ℕ → A → Type 0) (items : List A) (stopped : Option ChunkError) : Type 0 where
  pub each : EachChunk chunks holds items
  pub ends : EndsAfter read chunks (length items) stopped

-- what was fetched of the first chunks
abbrev pub AreFetched : RegionRead → Region → FetchedChunks → Type 0
AreFetched read chunks all = AreFirst read chunks (IsFetched read) all.chunks.items all.stopped

-- the count of refused store calls before and after chunks were fetched: it stays where all were, and else is what the error says of the chunk that is not read
abbrev pub CountsUntil : Option ChunkError → ℕ → ℕ → Type 0
CountsUntil None before after = after ≡ before
CountsUntil (Some e) before after = CountsStop e before after

-- the same where memory may have run out
abbrev pub CountsFetched : Result FetchedChunks ChunkError → ℕ → ℕ → Type 0
CountsFetched (Ok all) before after = CountsUntil all.stopped before after
CountsFetched (Err e) before after = CountsStop e before after

-- a store was only read: it holds what it held, stays as honest as it was and accepts no writing call, and its counts of refused calls before and after are so related
pub record OnlyRead {S : Type 0} (s : stores.Ghosts S) (old new : S) (counts : ℕ → ℕ → Type 0) : Type 0 where
  pub held : s.held new ≡ s.held old
  pub honest : s.is_honest new ≡ s.is_honest old
  pub refused : counts (s.refused_calls old) (s.refused_calls new)
  pub accepted : s.accepted_writes new ≡ s.accepted_writes old
