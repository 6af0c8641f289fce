-- What reading one chunk of a box does.
use Rattle.std.specs.Prelude.{◌≡◌, ◌⊎◌, ℕ, List, replicate, Option, Some, None, true, false, is_some, Result, Ok, Err}
use Rattle.std.specs.FinMap.{get}
use Rattle.zarr_grids_boxes.specs.Boxes.{Region, product, is_in_box}
use Rattle.zarr_grids_boxes.specs.Cuts.{overlapped, relative}
use Rattle.zarr_grids_boxes.specs.Subsets.{region_of}
use Rattle.zarr_grids_chunks.specs.Grids.{IsInGrid}
use Rattle.zarr_codecs_meaning.specs.Chunks.{chunk_part}
use Rattle.zarr_codecs_meaning.specs.Fits.{fits}
use Rattle.zarr_codecs_meaning.specs.Payloads.{Payload}
use Rattle.zarr_codecs_meaning.specs.Types.{Cell, DataType, Elements}
use Rattle.zarr_codecs_arrays.specs.Views.{payload_of}
use Rattle.zarr_codecs_arrays.specs.declared.array_bytes.ArrayBytes.{ArrayBytes}
use Rattle.zarr_codecs_traits.specs.Indexers.{in_box, numbers_of}
use Rattle.zarr_codecs_traits.specs.Arrays.{coded}
use Rattle.zarr_codecs_traits.specs.Outcomes.{IsPart}
use Rattle.zarr_array_elements.specs.Boxes.{AreOfBox}
use Rattle.zarr_array_elements.specs.Views.{cells_shown}
use Rattle.zarr_array_elements.specs.declared.box_elements.BoxElements.{BoxElements}
use Rattle.zarr_array_meaning.specs.Arrays.{Array, value_at}
use Rattle.zarr_array_meaning.specs.Boxes.{cell_of_box}
use Rattle.zarr_array_meaning.specs.Chunks.{ReadsCell, fits_box, part_at}
use Rattle.zarr_array_meaning.specs.Documents.{Document}
use Rattle.zarr_array_meaning.specs.ReadBytes.{most_of_shared}
use Rattle.zarr_array_meaning.specs.StoreMaps.{StoreMap}
use Rattle.zarr_array_core.specs.Outcomes.{IsStoreRefusal}
use Rattle.zarr_array_core.specs.declared.chunk_reading.ChunkPart.{ChunkPart}
use Rattle.zarr_array_core.specs.declared.chunk_reading.StoredChunk.{StoredChunk}
use Rattle.zarr_array_core.specs.declared.error.ChunkError.{ChunkError}
use Rattle.zarr_array_core.specs.declared.error.ChunkError.TheVariants as error

-- the elements at the places of a box of a chunk, of what is stored for it; none where it does not fit; or why they are not read
abbrev pub DecodesElements : Document → List ℕ → Option (List ℕ) → Region → Result (Option ArrayBytes) ChunkError → Type 0
DecodesElements document shape stored part (Ok (Some bytes)) = IsPart (coded document.chain document.elements shape) stored (in_box part) (payload_of bytes)
DecodesElements document shape stored part (Ok None) = fits document.chain document.elements.type shape ≡ false
DecodesElements document shape stored part (Err error.Damage) = (fits document.chain document.elements.type shape ≡ true) × (chunk_part document.chain document.elements shape stored (numbers_of shape part) ≡ None)
DecodesElements document shape stored part (Err (error.Storage e)) = IsStoreRefusal e
DecodesElements document shape stored part (Err error.Memory) = Unit {0}
DecodesElements document shape stored part (Err e) = ⊥

-- the elements of what is stored for a chunk at the places of a box that it shares with another one
pub record IsChunkPart (document : Document) (box : Region) (stored : Option (List ℕ)) (shared : Region) (payload : Payload) : Type 0 where
  pub is : IsPart (coded document.chain document.elements box.shape) stored (in_box (relative shared box.start)) payload

-- elements are as many as the places that a chunk shares with a box, and stand for these
pub record AreShared (type : DataType) (region box : Region) (part : ChunkPart) : Type 0 where
  pub places : region_of part.shared ≡ overlapped region box
  pub counted : AreOfBox type (payload_of part.bytes) (region_of part.shared)

-- the elements that a chunk shares with a box, of what is stored for it; none where it doesn't fit
abbrev pub FindsPart : Document → Region → Option (List ℕ) → Option ChunkPart → Type 0
FindsPart document box stored None = fits_box document box ≡ false
FindsPart document box stored (Some part) = IsChunkPart document box stored (region_of part.shared) (payload_of part.bytes)

-- the elements that a chunk in the grid shares with a box, of what is stored for it; none where nothing is
abbrev pub FindsAt : Array → StoreMap → List ℕ → Option ChunkPart → Type 0
FindsAt array store chunk None = value_at array store chunk ≡ None
FindsAt array store chunk (Some part) = (box : Region) → IsInGrid array.document.grid chunk box → IsChunkPart array.document box (value_at array store chunk) (region_of part.shared) (payload_of part.bytes)

-- the elements that are shown for a box are all the fill value
abbrev pub AreFill : Elements → Region → BoxElements → Type 0
AreFill elements region shown = cells_shown elements shown ≡ replicate (product region.shape) elements.fill

-- ---- a chunk that a box meets

-- a chunk of an array that a box meets, and what is stored for it
pub record MetChunk : Type 0 where
  pub document : Document
  pub region : Region
  pub box : Region
  pub stored : Option (List ℕ)

-- a chunk that a region meets, its box, and what a store holds for it
abbrev pub met_in : Array → StoreMap → Region → List ℕ → Region → MetChunk
met_in array store region chunk box = record { document = array.document; region = region; box = box; stored = value_at array store chunk }

-- the same, of a chunk whose key and box are given
abbrev pub met_by : Document → StoreMap → Region → StoredChunk → MetChunk
met_by document store region chunk = record { document = document; region = region; box = region_of chunk.own.now; stored = get store chunk.key.now }

-- how many bytes the codecs take at most of what is stored for such a chunk, for the places that it shares with the box
abbrev pub most_of_met : MetChunk → ℕ
most_of_met met = most_of_shared met.document met.region met.box met.stored

-- the cells of what is stored for a chunk were put over those of a box: each place of both shows the chunk's cell, and the other places of the box show what they did
pub record IsPlaced (met : MetChunk) (old new : List Cell) : Type 0 where
  pub fit : fits_box met.document met.box ≡ true
  pub shown : (place : List ℕ) → is_in_box met.region.start met.region.shape place ≡ true → is_in_box met.box.start met.box.shape place ≡ true
      → ReadsCell met.document met.box met.stored place (cell_of_box met.region new met.document.elements.fill place)
  pub kept : (place : List ℕ) → is_in_box met.region.start met.region.shape place ≡ true → is_in_box met.box.start met.box.shape place ≡ false
      → cell_of_box met.region new met.document.elements.fill place ≡ cell_of_box met.region old met.document.elements.fill place

-- what is stored for a chunk was put over the cells of a box; where nothing is stored they may also stay
abbrev pub GivesChunk : MetChunk → List Cell → List Cell → Type 0
GivesChunk met old new = ((met.stored ≡ None) × (new ≡ old)) ⊎ IsPlaced met old new

-- a place of a box and a chunk cannot be decoded of what is stored for the chunk
pub record IsLost (met : MetChunk) : Type 0 where
  pub fit : fits_box met.document met.box ≡ true
  pub place : List ℕ
  pub of_region : is_in_box met.region.start met.region.shape place ≡ true
  pub of_chunk : is_in_box met.box.start met.box.shape place ≡ true
  pub lost : part_at met.document met.box met.stored place ≡ None

-- why the cells of what is stored for a chunk are not put over those of a box
abbrev pub ValueStops : MetChunk → ChunkError → Type 0
ValueStops met error.Damage = IsLost met
ValueStops met (error.Storage e) = IsStoreRefusal e
ValueStops met error.Memory = Unit {0}
ValueStops met e = ⊥

-- why the part of a chunk that lies in a box is not read: the chunk has a value and does not fit, or a place of both is damaged
abbrev pub PartStops : MetChunk → ChunkError → Type 0
PartStops met error.Fit = (is_some met.stored ≡ true) × (fits_box met.document met.box ≡ false)
PartStops met error.Damage = IsLost met
PartStops met (error.Storage e) = IsStoreRefusal e
PartStops met error.Memory = Unit {0}
PartStops met e = ⊥

-- why the part of a chunk in the grid that lies in a box is not read
abbrev pub PartNotRead : Array → StoreMap → Region → List ℕ → ChunkError → Type 0
PartNotRead array store region chunk e = (box : Region) × IsInGrid array.document.grid chunk box × PartStops (met_in array store region chunk box) e
