-- What calls of codecs answer.
use Rattle.std.specs.Prelude.{◌≡◌, ◌⊎◌, ℕ, List, Bool, Option, Some, None, Result, Ok, Err, Vec, IsTrue, true, false, length}
use Rattle.std.specs.declared.alloc.Global.{Global}
use Rattle.zarr_grids_boxes.specs.Boxes.{product}
use Rattle.zarr_grids_metadata.specs.ExtensionPoints.{ExtensionPoint}
use Rattle.zarr_grids_metadata.specs.declared.error.PluginCreateError.{PluginCreateError}
use Rattle.zarr_grids_metadata.specs.declared.error.PluginCreateError.TheVariants as plugin
use Rattle.zarr_codecs_meaning.specs.Chains.{ArrayCodec, ByteCodec, Chain}
use Rattle.zarr_codecs_meaning.specs.Chains.ArrayCodec.{transpose, reshape, squeeze}
use Rattle.zarr_codecs_meaning.specs.Chunks.{chunk_part}
use Rattle.zarr_codecs_meaning.specs.Decoding.{decoded}
use Rattle.zarr_codecs_meaning.specs.Encoding.{encoded}
use Rattle.zarr_codecs_meaning.specs.Fits.{array_codec_fits, fits, is_lossless, is_size_as, representation_of}
use Rattle.zarr_codecs_meaning.specs.Making.{IsMadeOf}
use Rattle.zarr_codecs_meaning.specs.Payloads.{Payload, cells_in}
use Rattle.zarr_codecs_meaning.specs.Places.{encoded_shape, gather, source_places, undone_places}
use Rattle.zarr_codecs_meaning.specs.Refusals.{CodecRefuses, PassesIndex}
use Rattle.zarr_codecs_meaning.specs.Standing.{Stands}
use Rattle.zarr_codecs_meaning.specs.Types.{Cell, Elements, IsTooLarge}
use Rattle.zarr_codecs_arrays.specs.Outcomes.{IsInvalid, IsValid}
use Rattle.zarr_codecs_arrays.specs.Views.{payload_of}
use Rattle.zarr_codecs_arrays.specs.declared.array_bytes.ArrayBytes.{ArrayBytes}
use Rattle.zarr_codecs_arrays.specs.declared.error.CodecError.{CodecError}
use Rattle.zarr_codecs_arrays.specs.declared.error.CodecError.TheVariants as error
use Rattle.zarr_sharding_changes.specs.Gapless.{IsGapless}
use Rattle.zarr_codecs_traits.specs.Arrays.{Coded}
use Rattle.zarr_codecs_traits.specs.Indexers.{Asked, are_inside, numbers_asked}

-- ---- codecs between bytes

-- what a caller's codec makes of bytes: it refuses where the function has no value, memory aside
abbrev pub MakesBytes : (List ℕ → Option (List ℕ)) → List ℕ → Result (Vec ℕ Global) CodecError → Type 0
MakesBytes encode bytes (Ok made) = encode bytes ≡ Some made.items
MakesBytes encode bytes (Err error.Codec) = encode bytes ≡ None
MakesBytes encode bytes (Err error.Memory) = Unit {0}
MakesBytes encode bytes (Err e) = ⊥

-- what a caller's codec undoes bytes to: they are damaged where the function has no value, memory aside
abbrev pub UndoesBytes : (List ℕ → Option (List ℕ)) → List ℕ → Result (Vec ℕ Global) CodecError → Type 0
UndoesBytes decode bytes (Ok given) = decode bytes ≡ Some given.items
UndoesBytes decode bytes (Err error.Damage) = decode bytes ≡ None
UndoesBytes decode bytes (Err error.Memory) = Unit {0}
UndoesBytes decode bytes (Err e) = ⊥

-- a codec is made of metadata where codecs are read from it, memory aside
abbrev pub Creates : {B : Type 0} → (ExtensionPoint → Option ByteCodec) → (B → ByteCodec) → ExtensionPoint → Result B PluginCreateError → Type 0
Creates reads meaning point (Ok codec) = reads point ≡ Some (meaning codec)
Creates reads meaning point (Err plugin.Memory) = Unit {0}
Creates reads meaning point (Err e) = reads point ≡ None

-- ---- codecs between arrays and bytes

-- a value was made of the elements of an array: one that the chain may make of them, and what encoding them means, where what is made depends on them alone; it stands for them, where the chain keeps every bit. It has no gaps
pub record IsEncoded (array : Coded) (exact : Bool) (payload : Payload) (cells : List Cell) (value : List ℕ) : Type 0 where
  pub valid : IsValid array.elements.type payload (product array.shape) cells
  pub fit : fits array.chain array.elements.type array.shape ≡ true
  pub made : IsMadeOf array.chain array.elements array.shape cells value
  pub encodes : IsTrue exact → encoded array.chain array.elements array.shape cells ≡ Some value
  pub stands : is_lossless array.chain array.elements.type ≡ true → Stands array.chain array.elements array.shape value cells
  pub sized : is_size_as (representation_of array.chain array.elements.type array.shape) (length value) ≡ true
  pub gapless : IsGapless array.chain array.shape value

-- the elements of an array are not encoded: a caller's codec refuses, or an offset or a length is too large for where it is written
pub record IsRefused (array : Coded) (payload : Payload) (cells : List Cell) (refuses : Chain → Elements → List ℕ → List Cell → Type 0) : Type 0 where
  pub valid : IsValid array.elements.type payload (product array.shape) cells
  pub fit : fits array.chain array.elements.type array.shape ≡ true
  pub is : refuses array.chain array.elements array.shape cells

-- what a chain makes of the elements of an array, or why it makes nothing
abbrev pub Encodes : Coded → Bool → Payload → Result (Vec ℕ Global) CodecError → Type 0
Encodes array exact payload (Ok value) = (cells : List Cell) × IsEncoded array exact payload cells value.items
Encodes array exact payload (Err error.Fit) = fits array.chain array.elements.type array.shape ≡ false
Encodes array exact payload (Err error.Codec) = (cells : List Cell) × IsRefused array payload cells CodecRefuses
Encodes array exact payload (Err error.Size) = IsTooLarge array.elements.type (product array.shape) ⊎ ((cells : List Cell) × IsRefused array payload cells PassesIndex)
Encodes array exact payload (Err error.Memory) = Unit {0}
Encodes array exact payload (Err e) = (fits array.chain array.elements.type array.shape ≡ true) × IsInvalid array.elements.type payload (product array.shape) e

-- the elements of an array that a value is decoded to
pub record IsDecoded (array : Coded) (value : List ℕ) (payload : Payload) : Type 0 where
  pub cells : List Cell
  pub fit : fits array.chain array.elements.type array.shape ≡ true
  pub lists : cells_in array.elements.type payload ≡ Some cells
  pub is : decoded array.chain array.elements array.shape value ≡ Some cells

-- the elements of an array that a value is decoded to, or why there are none
abbrev pub Decodes : Coded → List ℕ → Result ArrayBytes CodecError → Type 0
Decodes array value (Ok bytes) = IsDecoded array value (payload_of bytes)
Decodes array value (Err error.Fit) = fits array.chain array.elements.type array.shape ≡ false
Decodes array value (Err error.Damage) = (fits array.chain array.elements.type array.shape ≡ true) × (decoded array.chain array.elements array.shape value ≡ None)
Decodes array value (Err error.Size) = IsTooLarge array.elements.type (product array.shape)
Decodes array value (Err error.Memory) = Unit {0}
Decodes array value (Err e) = ⊥

-- the elements at the places that are asked for, of what is stored
pub record IsPart (array : Coded) (stored : Option (List ℕ)) (asked : Asked) (payload : Payload) : Type 0 where
  pub cells : List Cell
  pub fit : fits array.chain array.elements.type array.shape ≡ true
  pub inside : are_inside array.shape asked ≡ true
  pub lists : cells_in array.elements.type payload ≡ Some cells
  pub is : chunk_part array.chain array.elements array.shape stored (numbers_asked array.shape asked) ≡ Some cells

-- the elements at the places that are asked for, of what is stored, or why there are none
abbrev pub DecodesPart : Coded → Option (List ℕ) → Asked → Result ArrayBytes CodecError → Type 0
DecodesPart array stored asked (Ok bytes) = IsPart array stored asked (payload_of bytes)
DecodesPart array stored asked (Err error.Fit) = fits array.chain array.elements.type array.shape ≡ false
DecodesPart array stored asked (Err error.IncompatibleIndexer) = are_inside array.shape asked ≡ false
DecodesPart array stored asked (Err error.Damage) =
    (fits array.chain array.elements.type array.shape ≡ true) × (are_inside array.shape asked ≡ true) × (chunk_part array.chain array.elements array.shape stored (numbers_asked array.shape asked) ≡ None)
DecodesPart array stored asked (Err error.Size) = IsTooLarge array.elements.type (product array.shape)
DecodesPart array stored asked (Err error.Source) = Unit {0}
DecodesPart array stored asked (Err error.Memory) = Unit {0}
DecodesPart array stored asked (Err e) = ⊥

-- ---- array to array codecs

-- what an array codec makes of the shape of an array, or why it makes nothing
abbrev pub EncodesShape : ArrayCodec → List ℕ → Result (Vec ℕ Global) CodecError → Type 0
EncodesShape codec shape (Ok made) = (array_codec_fits codec shape ≡ true) × (made.items ≡ encoded_shape codec shape)
EncodesShape codec shape (Err error.Fit) = array_codec_fits codec shape ≡ false
EncodesShape codec shape (Err error.Memory) = Unit {0}
EncodesShape codec shape (Err e) = ⊥

-- a shape that an array codec suits and encodes to another one
abbrev pub IsEncodedTo : ArrayCodec → List ℕ → List ℕ → Type 0
IsEncodedTo codec decoded shape = (array_codec_fits codec decoded ≡ true) × (encoded_shape codec decoded ≡ shape)

-- the only shape that an array codec suits and encodes to this one
pub record IsDecodedShape (codec : ArrayCodec) (shape decoded : List ℕ) : Type 0 where
  pub encodes : IsEncodedTo codec decoded shape
  pub only : (other : List ℕ) → IsEncodedTo codec other shape → other ≡ decoded

-- whether an array codec encodes no two shapes alike: `transpose` alone
abbrev pub tells_shapes : ArrayCodec → Bool
tells_shapes (transpose order) = true
tells_shapes (reshape entries) = false
tells_shapes squeeze = false

-- the shape of the arrays that an array codec encodes to this one, or why it isn't told: the codec encodes several shapes alike, so that none is the only one, or encodes no shape so
abbrev pub DecodesShape : ArrayCodec → List ℕ → Result (Option (Vec ℕ Global)) CodecError → Type 0
DecodesShape codec shape (Ok (Some decoded)) = IsDecodedShape codec shape decoded.items
DecodesShape codec shape (Ok None) = (tells_shapes codec ≡ false) × ((decoded : List ℕ) → IsDecodedShape codec shape decoded → ⊥)
DecodesShape codec shape (Err error.Fit) = (tells_shapes codec ≡ true) × ((decoded : List ℕ) → IsEncodedTo codec decoded shape → ⊥)
DecodesShape codec shape (Err error.Memory) = Unit {0}
DecodesShape codec shape (Err e) = ⊥

-- how an array codec moves the elements of an array of this shape: how many they are, and from which places they come, in their new order
pub record Moving : Type 0 where
  pub codec : ArrayCodec
  pub elements : Elements
  pub shape : List ℕ
  pub count : ℕ
  pub numbers : List ℕ

-- the same, put together
abbrev pub moving : ArrayCodec → Elements → List ℕ → ℕ → List ℕ → Moving
moving codec elements shape count numbers = record { codec = codec; elements = elements; shape = shape; count = count; numbers = numbers }

-- the elements that stand at these places of others, in this order
pub record IsMoved (by : Moving) (payload made : Payload) : Type 0 where
  pub cells : List Cell
  pub fit : array_codec_fits by.codec by.shape ≡ true
  pub valid : IsValid by.elements.type payload by.count cells
  pub lists : cells_in by.elements.type made ≡ Some (gather by.elements.fill cells by.numbers)

-- what an array codec makes of so many elements, or why it makes nothing
abbrev pub Moves : Moving → Payload → Result ArrayBytes CodecError → Type 0
Moves by payload (Ok made) = IsMoved by payload (payload_of made)
Moves by payload (Err error.Fit) = array_codec_fits by.codec by.shape ≡ false
Moves by payload (Err error.Size) = IsTooLarge by.elements.type (product by.shape)
Moves by payload (Err error.Memory) = Unit {0}
Moves by payload (Err e) = (array_codec_fits by.codec by.shape ≡ true) × IsInvalid by.elements.type payload by.count e

-- what an array codec makes of the elements of an array of this shape
abbrev pub EncodesArray : ArrayCodec → Elements → List ℕ → Payload → Result ArrayBytes CodecError → Type 0
EncodesArray codec elements shape payload result = Moves (moving codec elements shape (product shape) (source_places codec shape)) payload result

-- the elements of an array of this shape of which an array codec made these
abbrev pub DecodesArray : ArrayCodec → Elements → List ℕ → Payload → Result ArrayBytes CodecError → Type 0
DecodesArray codec elements shape payload result = Moves (moving codec elements shape (product (encoded_shape codec shape)) (undone_places codec shape)) payload result
