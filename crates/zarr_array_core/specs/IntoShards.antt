-- A part of a chunk, put into the chunk's shard.
use Rattle.std.specs.Prelude.{◌≡◌, ◌⊎◌, ℕ, List, map, Option, Bool, IsTrue, true, false, if◌then◌else◌, None, MatchBool, OnErr, Result}
use Rattle.std.specs.FinMap.{get}
use Rattle.zarr_grids_boxes.specs.Boxes.{Region, places, is_in_box}
use Rattle.zarr_grids_boxes.specs.Subsets.{region_of}
use Rattle.zarr_grids_boxes.specs.declared.subset.ArraySubset.{ArraySubset}
use Rattle.zarr_grids_chunks.specs.Grids.{IsInGrid}
use Rattle.zarr_grids_keys.specs.Keys.{chunk_key}
use Rattle.zarr_codecs_meaning.specs.Chains.{Chain}
use Rattle.zarr_codecs_meaning.specs.Payloads.{Payload}
use Rattle.zarr_codecs_meaning.specs.Refusals.{PassesIndex}
use Rattle.zarr_codecs_meaning.specs.Standing.{ChunkStands}
use Rattle.zarr_codecs_meaning.specs.Types.{Cell, Elements, is_fill}
use Rattle.zarr_codecs_arrays.specs.Views.{elements_of, payload_of}
use Rattle.zarr_codecs_arrays.specs.declared.array_bytes.ArrayBytes.{ArrayBytes}
use Rattle.zarr_codecs_arrays.specs.declared.error.CodecError.{CodecError}
use Rattle.zarr_codecs_arrays.specs.declared.error.CodecError.TheVariants as codec_error
use Rattle.zarr_codecs_traits.specs.Indexers.{Asked, in_box}
use Rattle.zarr_codecs_traits.specs.Arrays.{coded, update_of}
use Rattle.zarr_codecs_traits.specs.PartWriting.{ChunkTight, IsEncodedInto, NotEncodedInto, OnCells, PartsRefused, PassesLength, WholeRefused, WritesOnce, only_cell}
use Rattle.zarr_codecs_traits.specs.ShardWrites.{Appends, IsStoredGapless, LeavesParts}
use Rattle.zarr_codecs_traits.specs.Sources.{refused_after}
use Rattle.zarr_codecs_traits.specs.declared.array_to_bytes.ArrayToBytesCodecTraits as codecs
use Rattle.zarr_array_meaning.specs.Arrays.{value_at}
use Rattle.zarr_array_meaning.specs.Boxes.{cell_of_box}
use Rattle.zarr_array_meaning.specs.Chunks.{decoded_in, fits_box, part_at}
use Rattle.zarr_array_meaning.specs.Documents.{Document}
use Rattle.zarr_array_meaning.specs.Standing.{IsLossless}
use Rattle.zarr_array_meaning.specs.StoreMaps.{StoreMap}
use Rattle.zarr_array_meaning.specs.Writes.{Write}
use Rattle.zarr_array_meaning.specs.Writing.{StopsInto, given_cell, goes_into_shard, part_write}
use Rattle.zarr_array_storage.specs.declared.traits.ReadableStorageTraits as stores
use Rattle.zarr_array_storage.specs.declared.error.StorageError.{StorageError}
use Rattle.zarr_array_core.specs.ChunkValues.{ChangesValue, ChangeStops, PutsCells, with_value}
use Rattle.zarr_array_core.specs.Outcomes.{IsStoreRefusal}
use Rattle.zarr_array_core.specs.declared.array_core.ArrayCore.{ArrayCore}
use Rattle.zarr_array_core.specs.declared.error.ChunkError.{ChunkError}
use Rattle.zarr_array_core.specs.declared.error.ChunkError.TheVariants as error

-- why it isn't known whether a write puts a part of a chunk into its shard
abbrev pub IntoUnknown : Document → Region → ChunkError → Type 0
IntoUnknown document box error.Fit = fits_box document box ≡ false
IntoUnknown document box error.Memory = Unit {0}
IntoUnknown document box e = ⊥

-- ---- what is put

-- the cells of a chunk after those of a write were put over them
abbrev pub cells_over : Write → Region → List Cell → List Cell
cells_over write box before =
    map (λ place. if is_in_box write.region.start write.region.shape place then given_cell write place else cell_of_box box before write.array.document.elements.fill place) (places box.start box.shape)

-- the cells of a chunk after those of a write were put over what is read of it; where a cell can't be read the fill value stands
abbrev pub cells_then : Write → Region → Option (List ℕ) → List Cell
cells_then write box stored =
    let read = λ (place : List ℕ). only_cell write.array.document.elements.fill (part_at write.array.document box stored place) in
    map (λ place. if is_in_box write.region.start write.region.shape place then given_cell write place else read place) (places box.start box.shape)

-- the subchunks that a box meets got new slices behind a chunk's shard, and each other one stays; or there was no room for these, and the shard was written anew without gaps
abbrev pub LeavesOthers : Write → Region → Option (List ℕ) → Option (List ℕ) → Type 0
LeavesOthers write box stored made =
    let document = write.array.document in
    let part = part_write write box stored (cells_then write box stored) in
    Appends document.chain document.elements box.shape part made ⊎ (PassesLength document.chain document.elements box.shape part × IsStoredGapless document.chain box.shape made)

-- the cells of a write were put into a chunk's shard, which doesn't stop them: each place is read so, what stood for cells stands for them with the new ones, and a shard that is all fill then is taken away
pub record PutsIntoShard (write : Write) (box : Region) (stored made : Option (List ℕ)) : Type 0 where
  pub fit : fits_box write.array.document box ≡ true
  pub taken : ¬ StopsInto write.array.document write.region box stored
  pub puts : PutsCells write box stored made
  pub others : LeavesOthers write box stored made
  pub stands : IsLossless write.array.document → OnCells write.array.document.elements box.shape (λ before. ChunkStands write.array.document.chain write.array.document.elements box.shape stored before
      → ChunkStands write.array.document.chain write.array.document.elements box.shape made (cells_over write box before))
  pub tight : IsTrue write.array.exact → IsLossless write.array.document → OnCells write.array.document.elements box.shape (λ before. ChunkTight write.array.document.chain write.array.document.elements box.shape stored before
      → ChunkTight write.array.document.chain write.array.document.elements box.shape made (cells_over write box before))
  pub absent : IsLossless write.array.document → OnCells write.array.document.elements box.shape (λ before. ChunkStands write.array.document.chain write.array.document.elements box.shape stored before
      → is_fill write.array.document.elements.fill (cells_over write box before) ≡ true → made ≡ None)

-- what is stored for a chunk isn't decoded, and behind it there is no room for the new slices of the subchunks that a box meets: put there, they would make 2^63 bytes or more
abbrev pub HasNoRoomFor : Write → Region → Option (List ℕ) → Type 0
HasNoRoomFor write box stored =
    (decoded_in write.array.document box stored ≡ None) × PassesLength write.array.document.chain write.array.document.elements box.shape (part_write write box stored (cells_then write box stored))

-- a caller's codec refuses what the subchunks that a box meets call for, or, where there is no room for their new slices, what the whole chunk does
abbrev pub RefusesInto : Write → Region → Option (List ℕ) → Type 0
RefusesInto write box stored =
    let document = write.array.document in
    let cells = cells_then write box stored in
    let part = part_write write box stored cells in
    PartsRefused document.chain document.elements box.shape part ⊎ (PassesLength document.chain document.elements box.shape part × WholeRefused document.chain document.elements box.shape cells)

-- why the cells of a write are not put into a chunk's shard
abbrev pub IntoShardStops : Write → Region → Option (List ℕ) → ChunkError → Type 0
IntoShardStops write box stored error.Fit = ⊥
IntoShardStops write box stored (error.Storage e) = IsStoreRefusal e
IntoShardStops write box stored error.Damage = StopsInto write.array.document write.region box stored ⊎ HasNoRoomFor write box stored
IntoShardStops write box stored error.Codec = RefusesInto write box stored
IntoShardStops write box stored error.Size =
    let cells = cells_then write box stored in
    PassesIndex write.array.document.chain write.array.document.elements box.shape cells ⊎ PassesLength write.array.document.chain write.array.document.elements box.shape (part_write write box stored cells)
IntoShardStops write box stored error.Memory = Unit {0}

-- ---- what a write does

-- a key got the value that is made of what it had, or lost it, and no other key changed
abbrev pub ChangesAt : List ℕ → (Option (List ℕ) → Option (List ℕ) → Type 0) → StoreMap → StoreMap → Type 0
ChangesAt key makes old new = (made : Option (List ℕ)) × makes (get old key) made × (new ≡ with_value old key made)

-- what a write makes of a chunk: it puts a part of it into its shard, or changes its value otherwise
abbrev pub WritesChunk : Write → Region → Option (List ℕ) → Option (List ℕ) → Type 0
WritesChunk write box stored made = MatchBool (goes_into_shard write box) (PutsIntoShard write box stored made) (ChangesValue write box stored made)

-- why a write doesn't change a chunk that fits
abbrev pub FittingStops : Write → Region → Option (List ℕ) → ChunkError → Type 0
FittingStops write box stored e = MatchBool (goes_into_shard write box) ((fits_box write.array.document box ≡ true) × IntoShardStops write box stored e) (ChangeStops write box stored e)

-- why a write changes nothing in a chunk
abbrev pub WritingStops : Write → Region → Option (List ℕ) → ChunkError → Type 0
WritingStops write box stored error.Fit = fits_box write.array.document box ≡ false
WritingStops write box stored error.Memory = Unit {0}
WritingStops write box stored e = FittingStops write box stored e

-- a chunk in the grid got what a write makes of it, and no other key changed
abbrev pub WritesAt : Write → List ℕ → StoreMap → StoreMap → Type 0
WritesAt write chunk old new = (box : Region) × (made : Option (List ℕ)) × IsInGrid write.array.document.grid chunk box
    × WritesChunk write box (value_at write.array old chunk) made × (new ≡ with_value old (chunk_key write.array.path write.array.document.keys chunk) made)

-- why a chunk in the grid didn't get what a write makes of it
abbrev pub StopsAt : Write → List ℕ → ChunkError → StoreMap → Type 0
StopsAt write chunk e store = (box : Region) × IsInGrid write.array.document.grid chunk box × WritingStops write box (value_at write.array store chunk) e

-- ---- a codec's call

-- elements that a codec is to put at the places that are asked for
pub record Putting : Type 0 where
  pub chain : Chain
  pub exact : Bool
  pub elements : Elements
  pub shape : List ℕ
  pub asked : Asked
  pub payload : Payload

-- elements for a part of a chunk of this shape
abbrev pub putting_of : {C : Type 0} → codecs.Ghosts C → ArrayCore C → List ℕ → ArraySubset → ArrayBytes → Putting
putting_of c array shape part bytes = record { chain = c.meaning array.codecs; exact = c.is_function array.codecs; elements = elements_of array.elements; shape = shape; asked = in_box (region_of part); payload = payload_of bytes }

-- they were put into what is stored for the array
pub record IsPutInto (put : Putting) (stored made : Option (List ℕ)) : Type 0 where
  pub cells : List Cell
  pub encoded : IsEncodedInto (coded put.chain put.elements put.shape) put.exact (update_of put.asked put.payload stored) cells made
  pub parts : LeavesParts (coded put.chain put.elements put.shape) (update_of put.asked put.payload stored) made

-- or why they were not
abbrev pub NotPutInto : {A : Type 0} → Putting → Option (List ℕ) → Result A CodecError → Type 0
NotPutInto put stored result = NotEncodedInto (coded put.chain put.elements put.shape) (update_of put.asked put.payload stored) result

-- a codec called a store, of which a call may have been refused: the store stays as honest as it was, its refusal is counted, at most one writing call is accepted, and an error changes nothing
pub record CalledByCodec {S A : Type 0} (s : stores.Ghosts S) (old new : S) (result : Result A CodecError) : Type 0 where
  pub honest : s.is_honest new ≡ s.is_honest old
  pub refused : s.refused_calls new ≡ refused_after (s.refused_calls old) result
  pub once : WritesOnce (s.accepted_writes old) (s.accepted_writes new) result
  pub kept : IsTrue (s.is_honest old) → OnErr result (s.held new ≡ s.held old)

-- why a part is not put into a chunk's shard where a codec refuses, and why the store does, if that is what refuses
abbrev pub shard_refusal_of : CodecError → StorageError → ChunkError
shard_refusal_of codec_error.Codec refusal = error.Codec
shard_refusal_of codec_error.Size refusal = error.Size
shard_refusal_of codec_error.Memory refusal = error.Memory
shard_refusal_of codec_error.Source refusal = error.Storage refusal
shard_refusal_of e refusal = error.Damage
