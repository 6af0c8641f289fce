-- The value of one chunk after a write.
use Rattle.std.specs.Prelude.{◌≡◌, ◌⊎◌, ℕ, ◌*◌, List, length, map, Option, Some, None, is_some, Bool, IsTrue, true, false, MatchBool, Result, Ok, Err}
use Rattle.std.specs.FinMap.{insert, remove}
use Rattle.std.specs.List.{list_all}
use Rattle.zarr_grids_boxes.specs.Boxes.{Region, product, is_in_box}
use Rattle.zarr_codecs_meaning.specs.Chunks.{chunk_decoded}
use Rattle.zarr_codecs_meaning.specs.Encoding.{encoded}
use Rattle.zarr_codecs_meaning.specs.Fits.{is_lossless}
use Rattle.zarr_codecs_meaning.specs.Refusals.{CodecRefuses, PassesIndex}
use Rattle.zarr_codecs_meaning.specs.Standing.{ChunkStands}
use Rattle.zarr_codecs_meaning.specs.Types.{Cell, Component, DataType, Elements, components, custom, is_value, is_fill, unsigned}
use Rattle.zarr_codecs_arrays.specs.declared.error.CodecError.{CodecError}
use Rattle.zarr_codecs_arrays.specs.declared.error.CodecError.TheVariants as codec_error
use Rattle.zarr_array_core.specs.Outcomes.{IsStoreRefusal}
use Rattle.zarr_array_core.specs.declared.error.ChunkError.{ChunkError}
use Rattle.zarr_array_core.specs.declared.error.ChunkError.TheVariants as error
use Rattle.zarr_array_meaning.specs.Arrays.{Array}
use Rattle.zarr_array_meaning.specs.Boxes.{cell_of_box}
use Rattle.zarr_array_meaning.specs.Chunks.{ReadsCell, decoded_in, fits_box, holds_box, part_at}
use Rattle.zarr_array_meaning.specs.Documents.{Document}
use Rattle.zarr_array_meaning.specs.ElementBytes.{KeepsBytes}
use Rattle.zarr_array_meaning.specs.Standing.{IsLossless}
use Rattle.zarr_array_meaning.specs.StoreMaps.{StoreMap}
use Rattle.zarr_array_meaning.specs.Writes.{Write}
use Rattle.zarr_array_meaning.specs.Writing.{given_cell, is_in_part, keeps_fill, opens_in, takes_cells}

-- the cells of a chunk after a write of a box: values, the given ones in the box, and those that its stored value was decoded to where cells are to stay
pub record CellsBecome (write : Write) (box : Region) (stored : Option (List ℕ)) (cells : List Cell) : Type 0 where
  pub many : length cells ≡ product box.shape
  pub values : list_all (is_value write.array.document.elements.type) cells ≡ true
  pub written : (place : List ℕ) → is_in_box write.region.start write.region.shape place ≡ true → is_in_box box.start box.shape place ≡ true
      → cell_of_box box cells write.array.document.elements.fill place ≡ given_cell write place
  pub kept : holds_box write.region box ≡ false → (before : List Cell) × (decoded_in write.array.document box stored ≡ Some before)
      × ((place : List ℕ) → is_in_box write.region.start write.region.shape place ≡ false → is_in_box box.start box.shape place ≡ true
      → cell_of_box box cells write.array.document.elements.fill place ≡ cell_of_box box before write.array.document.elements.fill place)

-- why what is stored for a chunk is not decoded
abbrev pub DecodeStops : Document → List ℕ → Option (List ℕ) → ChunkError → Type 0
DecodeStops document shape stored error.Damage = chunk_decoded document.chain document.elements shape stored ≡ None
DecodeStops document shape stored error.Memory = Unit {0}
DecodeStops document shape stored e = ⊥

-- cells are to have a value: they are not all fill, or empty chunks are stored
abbrev pub HasValue : Document → Bool → List Cell → Type 0
HasValue document store_empty cells = store_empty ≡ false → is_fill document.elements.fill cells ≡ false

-- the value of a chunk with these cells, which stands for them, and is their encoding where that depends on them alone (`exact`); or none where they are all fill and empty chunks aren't stored
pub record IsNewValue (array : Array) (store_empty : Bool) (shape : List ℕ) (cells : List Cell) (stored : Option (List ℕ)) : Type 0 where
  pub absent : stored ≡ None → (store_empty ≡ false) × (is_fill array.document.elements.fill cells ≡ true)
  pub present : (value : List ℕ) → stored ≡ Some value → HasValue array.document store_empty cells
  pub stands : is_lossless array.document.chain array.document.elements.type ≡ true → ChunkStands array.document.chain array.document.elements shape stored cells
  pub encodes : IsTrue array.exact → (value : List ℕ) → stored ≡ Some value → encoded array.document.chain array.document.elements shape cells ≡ Some value

-- an error with which a codec refuses to encode cells that are an array's
abbrev pub IsRefusal : CodecError → Type 0
IsRefusal codec_error.Codec = Unit {0}
IsRefusal codec_error.Size = Unit {0}
IsRefusal codec_error.Memory = Unit {0}
IsRefusal e = ⊥

-- why a chunk is not written where its codecs refuse
abbrev pub refusal_of : CodecError → ChunkError
refusal_of codec_error.Codec = error.Codec
refusal_of codec_error.Size = error.Size
refusal_of e = error.Memory

-- why cells are not encoded
abbrev pub EncodeRefuses : Document → List ℕ → List Cell → ChunkError → Type 0
EncodeRefuses document shape cells error.Codec = CodecRefuses document.chain document.elements shape cells
EncodeRefuses document shape cells error.Size = PassesIndex document.chain document.elements shape cells
EncodeRefuses document shape cells error.Memory = Unit {0}
EncodeRefuses document shape cells e = ⊥

-- why cells that are to have a value get none
abbrev pub EncodeStops : Document → Bool → List ℕ → List Cell → ChunkError → Type 0
EncodeStops document store_empty shape cells e = HasValue document store_empty cells × EncodeRefuses document shape cells e

-- why the new cells of a chunk are not made
abbrev pub MergeStops : Write → Region → Option (List ℕ) → ChunkError → Type 0
MergeStops write box stored error.Damage = (holds_box write.region box ≡ false) × (decoded_in write.array.document box stored ≡ None)
MergeStops write box stored (error.Storage e) = IsStoreRefusal e
MergeStops write box stored error.Memory = Unit {0}
MergeStops write box stored e = ⊥

-- what a store holds after a chunk got a value, or lost the one that it had
abbrev pub with_value : StoreMap → List ℕ → Option (List ℕ) → StoreMap
with_value store key None = remove store key
with_value store key (Some value) = insert store key value

-- a chunk that fits gets the cells of a box where it lies in it, and the value of its new cells
pub record MakesValue (write : Write) (box : Region) (stored made : Option (List ℕ)) : Type 0 where
  pub fit : fits_box write.array.document box ≡ true
  pub cells : List Cell
  pub becomes : CellsBecome write box stored cells
  pub is : IsNewValue write.array (keeps_fill write box) box.shape cells made

-- the cells that a chunk is to get, and that they are not encoded
pub record NotEncoded (write : Write) (box : Region) (stored : Option (List ℕ)) (error : ChunkError) : Type 0 where
  pub fit : fits_box write.array.document box ≡ true
  pub cells : List Cell
  pub becomes : CellsBecome write box stored cells
  pub refuses : EncodeStops write.array.document (keeps_fill write box) box.shape cells error

-- why a chunk gets no new value
abbrev pub NewValueStops : Write → Region → Option (List ℕ) → ChunkError → Type 0
NewValueStops write box stored error.Fit = fits_box write.array.document box ≡ false
NewValueStops write box stored (error.Storage e) = (fits_box write.array.document box ≡ true) × IsStoreRefusal e
NewValueStops write box stored error.Damage = (fits_box write.array.document box ≡ true) × MergeStops write box stored error.Damage
NewValueStops write box stored error.Memory = Unit {0}
NewValueStops write box stored e = NotEncoded write box stored e

-- ---- elements as plain bytes

-- a component of as many bytes whose bits are all its own, so that any bytes are one
abbrev pub plain_component : Component → Component
plain_component c = record { width = c.byte_count * 8; byte_count = c.byte_count; sign = unsigned }

-- the type of elements with such components: any bytes of that size are one
abbrev pub plain_type : DataType → DataType
plain_type type = custom (map plain_component (components type))

-- such elements, with the fill value of those of an array
abbrev pub plain_elements : Elements → Elements
plain_elements elements = record { type = plain_type elements.type; fill = elements.fill }

-- the write of the same cells to an array of such elements
abbrev pub plain_write : Write → Write
plain_write write = record write { array = record write.array { document = record write.array.document { elements = plain_elements write.array.document.elements } } }

-- ---- a part written over what isn't decoded

-- each place of a chunk is read as the given cells in the box, and as before at its other places
abbrev pub ShowsPart : Write → Region → Option (List ℕ) → Option (List ℕ) → Type 0
ShowsPart write box old new = (place : List ℕ) → is_in_box box.start box.shape place ≡ true
    → MatchBool (is_in_box write.region.start write.region.shape place) (ReadsCell write.array.document box new place (given_cell write place))
    (part_at write.array.document box new place ≡ part_at write.array.document box old place)

-- new cells were put into what opens: if the chain keeps every bit, this is what is read
pub record PutsCells (write : Write) (box : Region) (old new : Option (List ℕ)) : Type 0 where
  pub opened : opens_in write.array.document box old ≡ true
  pub shows : IsLossless write.array.document → ShowsPart write box old new

-- why cells are not put into what is stored: it doesn't open, or memory ran out
abbrev pub PutStops : Document → Region → Option (List ℕ) → ChunkError → Type 0
PutStops document box stored error.Damage = opens_in document box stored ≡ false
PutStops document box stored error.Memory = Unit {0}
PutStops document box stored e = ⊥

-- an error with which a codec refuses to put cells into a value
abbrev pub IsPutRefusal : CodecError → Type 0
IsPutRefusal codec_error.Damage = Unit {0}
IsPutRefusal codec_error.Memory = Unit {0}
IsPutRefusal e = ⊥

-- why cells are not put into what is stored, where a codec refuses
abbrev pub put_refusal_of : CodecError → ChunkError
put_refusal_of codec_error.Damage = error.Damage
put_refusal_of e = error.Memory

-- a chunk that fits, whose value isn't decoded but opens, is written in part, and its other elements keep their bytes
pub record PutsPart (write : Write) (box : Region) (stored made : Option (List ℕ)) : Type 0 where
  pub fit : fits_box write.array.document box ≡ true
  pub in_part : is_in_part write.array.document write.options write.region box ≡ true
  pub lost : decoded_in write.array.document box stored ≡ None
  pub some : is_some made ≡ true
  pub puts : PutsCells write box stored made
  pub bytes : KeepsBytes write box stored made

-- what a write makes of a chunk, if it puts no part of it into its shard: the value of its new cells, or one into which these were put
abbrev pub ChangesValue : Write → Region → Option (List ℕ) → Option (List ℕ) → Type 0
ChangesValue write box stored made = MakesValue write box stored made ⊎ PutsPart write box stored made

-- why a chunk isn't changed then
abbrev pub ChangeStops : Write → Region → Option (List ℕ) → ChunkError → Type 0
ChangeStops write box stored error.Fit = fits_box write.array.document box ≡ false
ChangeStops write box stored (error.Storage e) = (fits_box write.array.document box ≡ true) × IsStoreRefusal e
ChangeStops write box stored error.Damage =
    (fits_box write.array.document box ≡ true) × (holds_box write.region box ≡ false) × (takes_cells write.array.document write.options write.region box stored ≡ false)
ChangeStops write box stored error.Memory = Unit {0}
ChangeStops write box stored e = NotEncoded write box stored e

-- a fact where a call stopped at damage
abbrev pub OnDamage : {A : Type 0} → Result A ChunkError → Type 0 → Type 0
OnDamage (Ok value) fact = Unit {0}
OnDamage (Err error.Damage) fact = fact
OnDamage (Err e) fact = Unit {0}
