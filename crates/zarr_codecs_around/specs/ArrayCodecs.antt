-- Array codecs one after another.
use Rattle.std.specs.Prelude.{◌≡◌, ℕ, List, [], ◌∷◌, Bool, true, false, ◌&&◌, Result, Ok, Err, Vec}
use Rattle.std.specs.declared.alloc.Global.{Global}
use Rattle.zarr_codecs_meaning.specs.Chains.{ArrayCodec, Chain}
use Rattle.zarr_codecs_meaning.specs.Fits.{array_codec_fits, fits}
use Rattle.zarr_codecs_meaning.specs.Payloads.{Payload}
use Rattle.zarr_codecs_meaning.specs.Places.{encoded_shape}
use Rattle.zarr_codecs_meaning.specs.Types.{Elements}
use Rattle.zarr_codecs_arrays.specs.Views.{payload_of}
use Rattle.zarr_codecs_arrays.specs.declared.array_bytes.ArrayBytes.{ArrayBytes}
use Rattle.zarr_codecs_arrays.specs.declared.error.CodecError.{CodecError}
use Rattle.zarr_codecs_arrays.specs.declared.error.CodecError.TheVariants as error
use Rattle.zarr_codecs_traits.specs.Arrays.{coded}
use Rattle.zarr_codecs_traits.specs.Outcomes.{Encodes, Decodes}
use Rattle.zarr_codecs_around.specs.Views.{with_array_codecs}

-- the shape of the array after array codecs
abbrev pub shape_after : List ArrayCodec → List ℕ → List ℕ
shape_after [] shape = shape
shape_after (codec ∷ codecs) shape = shape_after codecs (encoded_shape codec shape)

-- whether each of the codecs suits the shape that reaches it
abbrev pub all_fit : List ArrayCodec → List ℕ → Bool
all_fit [] shape = true
all_fit (codec ∷ codecs) shape = array_codec_fits codec shape && all_fit codecs (encoded_shape codec shape)

-- the shape of the array after array codecs, or that one of them does not suit the shape that reaches it
abbrev pub EncodesShapes : List ArrayCodec → List ℕ → Result (Vec ℕ Global) CodecError → Type 0
EncodesShapes codecs shape (Ok made) = (all_fit codecs shape ≡ true) × (made.items ≡ shape_after codecs shape)
EncodesShapes codecs shape (Err error.Fit) = all_fit codecs shape ≡ false
EncodesShapes codecs shape (Err error.Memory) = Unit {0}
EncodesShapes codecs shape (Err e) = ⊥

-- elements that array codecs moved: what a chain makes of them is what it makes of the elements before, with the codecs before it; where they are not moved, that is what encoding answers
abbrev pub MovesAll : List ArrayCodec → Elements → List ℕ → Payload → Result ArrayBytes CodecError → Type 0
MovesAll codecs elements shape payload (Ok moved) =
    (chain : Chain) (exact : Bool) (r : Result (Vec ℕ Global) CodecError) → fits chain elements.type (shape_after codecs shape) ≡ true → Encodes (coded chain elements (shape_after codecs shape)) exact (payload_of moved) r
    → Encodes (coded (with_array_codecs codecs chain) elements shape) exact payload r
MovesAll codecs elements shape payload (Err e) = (chain : Chain) (exact : Bool) → fits chain elements.type (shape_after codecs shape) ≡ true → Encodes (coded (with_array_codecs codecs chain) elements shape) exact payload (Err e)

-- elements that array codecs moved back: what a chain decodes to the elements after, is decoded to these with the codecs before it
abbrev pub UndoesAll : List ArrayCodec → Elements → List ℕ → ArrayBytes → Result ArrayBytes CodecError → Type 0
UndoesAll codecs elements shape found result = (chain : Chain) (value : List ℕ) → Decodes (coded chain elements (shape_after codecs shape)) value (Ok found) → Decodes (coded (with_array_codecs codecs chain) elements shape) value result
