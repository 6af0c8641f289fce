-- Boxes of an array that array codecs move, one after another, and their elements.
use Rattle.std.specs.Prelude.{◌≡◌, ℕ, List, [], ◌∷◌, Option, Some, true, false, Result, Ok, Err}
use Rattle.zarr_grids_boxes.specs.Boxes.{Region, product}
use Rattle.zarr_grids_boxes.specs.Subsets.{region_of}
use Rattle.zarr_codecs_meaning.specs.Chains.{ArrayCodec, Chain}
use Rattle.zarr_codecs_meaning.specs.Fits.{array_codec_fits}
use Rattle.zarr_codecs_meaning.specs.Payloads.{Payload}
use Rattle.zarr_codecs_meaning.specs.Places.{encoded_shape, source_places}
use Rattle.zarr_codecs_meaning.specs.Types.{Elements, IsTooLarge}
use Rattle.zarr_codecs_arrays.specs.Outcomes.{IsInvalid}
use Rattle.zarr_codecs_arrays.specs.Views.{payload_of}
use Rattle.zarr_codecs_arrays.specs.declared.array_bytes.ArrayBytes.{ArrayBytes}
use Rattle.zarr_codecs_arrays.specs.declared.error.CodecError.{CodecError}
use Rattle.zarr_codecs_arrays.specs.declared.error.CodecError.TheVariants as error
use Rattle.zarr_codecs_traits.specs.Indexers.{in_box}
use Rattle.zarr_codecs_traits.specs.Arrays.{coded}
use Rattle.zarr_codecs_traits.specs.Outcomes.{DecodesPart, IsMoved, moving}
use Rattle.zarr_codecs_boxes.specs.Regions.{encoded_region}
use Rattle.zarr_codecs_around.specs.ArrayCodecs.{all_fit}
use Rattle.zarr_codecs_around.specs.Views.{with_array_codecs}
use Rattle.zarr_codecs_around.specs.declared.moved_boxes.MovedBox.{MovedBox}
use Rattle.zarr_codecs_around.specs.declared.moved_boxes.MovedElements.{MovedElements}

-- the encoded shape of an array that an array codec suits, and the box that a box of the array becomes
pub record IsNextBox (codec : ArrayCodec) (shape : List ℕ) (region : Region) (next : List ℕ) (moved : Region) : Type 0 where
  pub fit : array_codec_fits codec shape ≡ true
  pub shape_is : next ≡ encoded_shape codec shape
  pub region_is : encoded_region codec shape region ≡ Some moved

-- the box that a box becomes, or that the codec does not suit the array
abbrev pub MovesBox : ArrayCodec → List ℕ → Region → Result MovedBox CodecError → Type 0
MovesBox codec shape region (Ok made) = IsNextBox codec shape region made.shape.items (region_of made.subset)
MovesBox codec shape region (Err error.Fit) = array_codec_fits codec shape ≡ false
MovesBox codec shape region (Err error.Memory) = Unit {0}
MovesBox codec shape region (Err e) = ⊥

-- a box that an array codec makes of another one, and what holds of it after the codec
pub record IsBoxThen (codec : ArrayCodec) (shape : List ℕ) (region : Region) (after : List ℕ → Region → Type 0) : Type 0 where
  pub next : Region
  pub fit : array_codec_fits codec shape ≡ true
  pub region_is : encoded_region codec shape region ≡ Some next
  pub rest : after (encoded_shape codec shape) next

-- the shape of an array after array codecs that suit it, and the box there that a box of the array becomes
abbrev pub IsBoxAfter : List ArrayCodec → List ℕ → Region → List ℕ → Region → Type 0
IsBoxAfter [] shape region last moved = (last ≡ shape) × (moved ≡ region)
IsBoxAfter (codec ∷ codecs) shape region last moved = IsBoxThen codec shape region (λ encoded next. IsBoxAfter codecs encoded next last moved)

-- the box that a box becomes through array codecs, or that one of them does not suit the shape that reaches it
abbrev pub MovesBoxes : List ArrayCodec → List ℕ → Region → Result MovedBox CodecError → Type 0
MovesBoxes codecs shape region (Ok made) = IsBoxAfter codecs shape region made.shape.items (region_of made.subset)
MovesBoxes codecs shape region (Err error.Fit) = all_fit codecs shape ≡ false
MovesBoxes codecs shape region (Err error.Memory) = Unit {0}
MovesBoxes codecs shape region (Err e) = ⊥

-- a box of an array: the array's shape, and the box
pub record ArrayBox : Type 0 where
  pub shape : List ℕ
  pub region : Region

-- this box of an array of this shape
abbrev pub array_box : List ℕ → Region → ArrayBox
array_box shape region = record { shape = shape; region = region }

-- a box of an array and its elements: the array's shape, the box, and the elements of its places, row-major
pub record BoxPayload : Type 0 where
  pub shape : List ℕ
  pub region : Region
  pub payload : Payload

-- these elements of a box of an array of this shape
abbrev pub box_payload : List ℕ → Region → Payload → BoxPayload
box_payload shape region payload = record { shape = shape; region = region; payload = payload }

-- a box that an array codec makes of another one, its elements moved as those of an array of the box's shape, and what holds of both after the codec
pub record IsTurnedThen (codec : ArrayCodec) (elements : Elements) (before : BoxPayload) (after : BoxPayload → Type 0) : Type 0 where
  pub next : Region
  pub turned : Payload
  pub fit : array_codec_fits codec before.shape ≡ true
  pub region_is : encoded_region codec before.shape before.region ≡ Some next
  pub moves : IsMoved (moving codec elements before.region.shape (product before.region.shape) (source_places codec before.region.shape)) before.payload turned
  pub rest : after (box_payload (encoded_shape codec before.shape) next turned)

-- the same as `IsBoxAfter`, with the elements that the codecs make of those of the box
abbrev pub IsTurnedTo : List ArrayCodec → Elements → BoxPayload → BoxPayload → Type 0
IsTurnedTo [] elements before after = (after.shape ≡ before.shape) × (after.region ≡ before.region) × (after.payload ≡ before.payload)
IsTurnedTo (codec ∷ codecs) elements before after = IsTurnedThen codec elements before (λ turned. IsTurnedTo codecs elements turned after)

-- the elements of a box as array codecs move them, or why they are not moved: a codec does not suit the shape that reaches it, the array is too large, or these are not the box's elements
abbrev pub TurnsBox : List ArrayCodec → Elements → BoxPayload → Result MovedElements CodecError → Type 0
TurnsBox codecs elements before (Ok made) = IsTurnedTo codecs elements before (box_payload made.place.shape.items (region_of made.place.subset) (payload_of made.bytes))
TurnsBox codecs elements before (Err error.Fit) = all_fit codecs before.shape ≡ false
TurnsBox codecs elements before (Err error.Size) = IsTooLarge elements.type (product before.shape)
TurnsBox codecs elements before (Err error.Memory) = Unit {0}
TurnsBox codecs elements before (Err e) = IsInvalid elements.type before.payload (product before.region.shape) e

-- elements of a box that were moved back: where a chain decodes the box after array codecs to the elements after, it decodes the box to these with the codecs before it
abbrev pub UndoesBox : List ArrayCodec → Elements → ArrayBox → ArrayBytes → Result ArrayBytes CodecError → Type 0
UndoesBox codecs elements box found result =
    (chain : Chain) (stored : Option (List ℕ)) (last : List ℕ) (moved : Region) → IsBoxAfter codecs box.shape box.region last moved
    → DecodesPart (coded chain elements last) stored (in_box moved) (Ok found)
    → DecodesPart (coded (with_array_codecs codecs chain) elements box.shape) stored (in_box box.region) result
