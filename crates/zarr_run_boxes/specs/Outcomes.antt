-- What commands over the cells of one array answer and leave.
use Rattle.std.specs.Prelude.{◌≡◌, ◌⊎◌, ℕ, ◌<◌, List, length, take, Some, None, Result, Ok, Err}
use Rattle.serde_json.specs.Data.{Data}
use Rattle.zarr_grids_boxes.specs.Boxes.{Region, product, places}
use Rattle.zarr_grids_chunks.specs.Grids.{IsInGrid, intersecting}
use Rattle.zarr_codecs_meaning.specs.Payloads.{Payload, cells_in, values_in}
use Rattle.zarr_codecs_meaning.specs.Types.{DataType, Cell}
use Rattle.zarr_codecs_options.specs.declared.codec_options.CodecOptions.{CodecOptions}
use Rattle.zarr_codecs_types.specs.Given.{GivenCells, given_in, given_json}
use Rattle.zarr_array_core.specs.declared.error.ChunkError.{ChunkError}
use Rattle.zarr_array_core.specs.declared.error.ChunkError.TheVariants as error
use Rattle.zarr_array_meaning.specs.Arrays.{Array}
use Rattle.zarr_array_meaning.specs.Boxes.{IsRead, IsDamagedIn, IsUnfitIn}
use Rattle.zarr_array_meaning.specs.Documents.{Document}
use Rattle.zarr_array_meaning.specs.StoreMaps.{StoreMap}
use Rattle.zarr_array_meaning.specs.Writes.{write_to}
use Rattle.zarr_array_meaning.specs.Writing.{WroteChunks, ErasedChunks}
use Rattle.zarr_run_meaning.specs.declared.cause.Cause.{Cause}
use Rattle.zarr_run_meaning.specs.declared.cause.Cause.TheVariants as cause
use Rattle.zarr_run_meaning.specs.Causes.{IsTarget, AreTargets, Gives, IsGiven, HasTooLarge, HasTooLargeChunk, WriteRefuses, StopsAt, ReadRefuses, EraseRefuses, EraseStops}
use Rattle.zarr_run_meaning.specs.Counts.{most_refused}
use Rattle.zarr_run_meaning.specs.Requests.{Target, WriteAsked}
use Rattle.zarr_run_meaning.specs.Steps.{refused_after, CountsRefusal}
use Rattle.zarr_run_boxes.specs.declared.refusal.Refusal.{Refusal}

-- the count of refused store calls after a command
abbrev pub refused_by : {A : Type 0} → ℕ → Result A Refusal → ℕ
refused_by count (Ok value) = count
refused_by count (Err refusal) = refused_after refusal.cause count

-- the count of refused store calls after a command on one chunk
abbrev pub refused_with : {A : Type 0} → ℕ → Result A Cause → ℕ
refused_with count (Ok value) = count
refused_with count (Err c) = refused_after c count

-- the count of refused store calls before and after a read: it stays where the read is done, and else is what its refusal says
abbrev pub CountsRead : {A : Type 0} → Result A Cause → ℕ → ℕ → Type 0
CountsRead (Ok value) before after = after ≡ before
CountsRead (Err c) before after = CountsRefusal c before after

-- how many bytes a read takes at most that is done or refused so, of at most so many
abbrev pub most_with : {A : Type 0} → Result A Cause → ℕ → ℕ
most_with (Ok value) most = most
most_with (Err c) most = most_refused c most

-- nothing was changed before the refusal
pub record IsUntouched (refusal : Refusal) (old new : StoreMap) : Type 0 where
  pub applied : refusal.applied ≡ 0
  pub same : new ≡ old

-- a payload is the cells that a read asks for
pub record ReadsTarget (path : List ℕ) (document : Document) (store : StoreMap) (target : Target) (payload : Payload) : Type 0 where
  pub box : Region
  pub is : IsTarget document.grid target box
  pub small : ¬ HasTooLarge document box
  pub values : List Cell
  pub lists : cells_in document.elements.type payload ≡ Some values
  pub read : IsRead path document store box values

-- a read was refused
abbrev pub ReadRefused : List ℕ → Document → StoreMap → Target → Cause → Type 0
ReadRefused path document store target c = ReadRefuses path document store target c ⊎ (c ≡ cause.Memory)

-- ---- writes

-- the cells that a write gives were written to each chunk that its box intersects
pub record WritesTarget (array : Array) (asked : WriteAsked) (old new : StoreMap) : Type 0 where
  pub box : Region
  pub values : List Cell
  pub is : IsGiven array.document asked.target asked.cells box values
  pub small : ¬ HasTooLarge array.document box
  pub wrote : WroteChunks (write_to array box values asked.options) (intersecting array.document.grid box) old new

-- a write stopped at a chunk: of the chunks that its box intersects exactly those before it are written
pub record WroteFirst (array : Array) (asked : WriteAsked) (refusal : Refusal) (old new : StoreMap) : Type 0 where
  pub box : Region
  pub values : List Cell
  pub is : IsGiven array.document asked.target asked.cells box values
  pub small : ¬ HasTooLarge array.document box
  pub stops : StopsAt (write_to array box values asked.options) old refusal.applied refusal.cause
  pub wrote : WroteChunks (write_to array box values asked.options) (take refusal.applied (intersecting array.document.grid box)) old new

-- a write was refused: as a whole, for want of memory before a chunk was touched, or at a chunk
abbrev pub WriteRefused : Array → WriteAsked → Refusal → StoreMap → StoreMap → Type 0
WriteRefused array asked refusal old new =
    (IsUntouched refusal old new × (WriteRefuses array.document asked.target asked.cells refusal.cause ⊎ (refusal.cause ≡ cause.Memory))) ⊎ WroteFirst array asked refusal old new

-- cells that are given for a covered box, and how they are stored
pub record BoxAsked : Type 0 where
  pub region : Region
  pub cells : GivenCells
  pub options : CodecOptions

-- the cells that are given for a covered box were written
pub record WritesCovered (array : Array) (asked : BoxAsked) (old new : StoreMap) : Type 0 where
  pub values : List Cell
  pub gives : Gives array.document asked.region asked.cells values
  pub small : ¬ HasTooLarge array.document asked.region
  pub wrote : WroteChunks (write_to array asked.region values asked.options) (intersecting array.document.grid asked.region) old new

-- the cells that are given for a covered box were written to the first of the chunks that it intersects, and why the next one was not written
pub record WroteFirstCovered (array : Array) (asked : BoxAsked) (refusal : Refusal) (old new : StoreMap) : Type 0 where
  pub values : List Cell
  pub gives : Gives array.document asked.region asked.cells values
  pub small : ¬ HasTooLarge array.document asked.region
  pub stops : StopsAt (write_to array asked.region values asked.options) old refusal.applied refusal.cause
  pub wrote : WroteChunks (write_to array asked.region values asked.options) (take refusal.applied (intersecting array.document.grid asked.region)) old new

-- why the cells that are given for a covered box are not written, before a chunk is touched
abbrev pub CoveredWriteRefuses : Document → Region → GivenCells → Cause → Type 0
CoveredWriteRefuses document region given cause.Data = (values : List Cell) → ¬ Gives document region given values
CoveredWriteRefuses document region given cause.Size = (values : List Cell) × Gives document region given values × HasTooLarge document region
CoveredWriteRefuses document region given cause.Memory = Unit {0}
CoveredWriteRefuses document region given c = ⊥

-- a write of a covered box was refused: before a chunk was touched, or at a chunk
abbrev pub CoveredWriteRefused : Array → BoxAsked → Refusal → StoreMap → StoreMap → Type 0
CoveredWriteRefused array asked refusal old new =
    (IsUntouched refusal old new × CoveredWriteRefuses array.document asked.region asked.cells refusal.cause) ⊎ WroteFirstCovered array asked refusal old new

-- a payload is as many values of the type as a box has places
pub record AreValuesOf (document : Document) (region : Region) (payload : Payload) (values : List Cell) : Type 0 where
  pub lists : values_in document.elements.type payload ≡ Some values
  pub many : length values ≡ product region.shape

-- why elements are not written to a box: they are not as many values of the type as it has places
abbrev pub ElementsRefused : Document → Region → Payload → Cause → Type 0
ElementsRefused document region payload c = (c ≡ cause.Data) × ((values : List Cell) → ¬ AreValuesOf document region payload values)

-- why a JSON value gives no elements of a type: it says none, or memory is short
abbrev pub JsonRefused : DataType → Data → Cause → Type 0
JsonRefused type d cause.Data = given_in type (given_json d) ≡ None
JsonRefused type d cause.Memory = Unit {0}
JsonRefused type d c = ⊥

-- ---- erasures

-- the chunks that an erasure names were erased
pub record ErasesTarget (array : Array) (chunks : Region) (old new : StoreMap) : Type 0 where
  pub below : AreTargets array.document.grid chunks
  pub small : ¬ HasTooLargeChunk array.document chunks
  pub erased : ErasedChunks array.path array.document (places chunks.start chunks.shape) old new

-- an erasure stopped at a chunk: exactly the chunks before it are erased
pub record ErasedFirst (array : Array) (chunks : Region) (refusal : Refusal) (old new : StoreMap) : Type 0 where
  pub below : AreTargets array.document.grid chunks
  pub small : ¬ HasTooLargeChunk array.document chunks
  pub stops : EraseStops refusal.cause
  pub fewer : refusal.applied < product chunks.shape
  pub erased : ErasedChunks array.path array.document (take refusal.applied (places chunks.start chunks.shape)) old new

-- an erasure was refused: as a whole, at a chunk, or for want of memory before a chunk was touched
abbrev pub EraseRefused : Array → Region → Refusal → StoreMap → StoreMap → Type 0
EraseRefused array chunks refusal old new =
    (IsUntouched refusal old new × (EraseRefuses array.document chunks refusal.cause ⊎ (refusal.cause ≡ cause.Memory))) ⊎ ErasedFirst array chunks refusal old new

-- the cause that an error over a chunk becomes
abbrev pub cause_of : ChunkError → Cause
cause_of error.Fit = cause.Fit
cause_of (error.Storage e) = cause.Store
cause_of error.Damage = cause.Damage
cause_of error.Codec = cause.Codec
cause_of error.Size = cause.Size
cause_of error.Memory = cause.Memory

-- why a chunk has no box to be written or read: it is none in the grid or has none, or memory is short
abbrev pub ChunkRefused : Document → List ℕ → Cause → Type 0
ChunkRefused document chunk c = (c ≡ cause.Memory) ⊎ ((c ≡ cause.Region) × ((box : Region) → ¬ IsInGrid document.grid chunk box))

-- why the chunks that a covered box intersects are not taken: it or one of them is too large, or memory is short
abbrev pub ChunksRefused : Document → Region → Cause → Type 0
ChunksRefused document region c = (c ≡ cause.Memory) ⊎ ((c ≡ cause.Size) × HasTooLarge document region)

-- a payload is the cells of a covered box
pub record GivesCovered (path : List ℕ) (document : Document) (store : StoreMap) (region : Region) (payload : Payload) : Type 0 where
  pub small : ¬ HasTooLarge document region
  pub values : List Cell
  pub lists : cells_in document.elements.type payload ≡ Some values
  pub read : IsRead path document store region values

-- why a covered box is not read
abbrev pub CoveredReadRefused : List ℕ → Document → StoreMap → Region → Cause → Type 0
CoveredReadRefused path document store region cause.Size = HasTooLarge document region
CoveredReadRefused path document store region cause.Fit = (¬ HasTooLarge document region) × IsUnfitIn path document store region
CoveredReadRefused path document store region cause.Damage = (¬ HasTooLarge document region) × IsDamagedIn path document store region
CoveredReadRefused path document store region cause.Store = (¬ HasTooLarge document region) × (0 < product region.shape)
CoveredReadRefused path document store region cause.Memory = Unit {0}
CoveredReadRefused path document store region c = ⊥
