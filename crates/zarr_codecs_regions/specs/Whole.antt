-- Values that are read whole and written anew, where elements of their arrays are replaced.
use Rattle.std.specs.Prelude.{◌≡◌, ℕ, List, length, Option, None, Some, Result, Ok, Err, Vec, Bool, true, false, unwrap_or, option_map}
use Rattle.std.specs.declared.alloc.Global.{Global}
use Rattle.zarr_grids_boxes.specs.Boxes.{product}
use Rattle.zarr_codecs_meaning.specs.Chains.{Chain}
use Rattle.zarr_codecs_meaning.specs.Chunks.{chunk_decoded}
use Rattle.zarr_codecs_meaning.specs.Fits.{fits, is_plain}
use Rattle.zarr_codecs_meaning.specs.Payloads.{Payload, cells_in}
use Rattle.zarr_codecs_meaning.specs.Types.{Cell, Elements, is_fill, IsTooLarge}
use Rattle.zarr_codecs_arrays.specs.Outcomes.{IsValid}
use Rattle.zarr_codecs_arrays.specs.Views.{payload_of}
use Rattle.zarr_codecs_arrays.specs.declared.array_bytes.ArrayBytes.{ArrayBytes}
use Rattle.zarr_codecs_arrays.specs.declared.error.CodecError.{CodecError}
use Rattle.zarr_codecs_arrays.specs.declared.error.CodecError.TheVariants as error
use Rattle.zarr_codecs_traits.specs.Indexers.{Asked, are_inside, numbers_asked}
use Rattle.zarr_codecs_traits.specs.Arrays.{Coded}
use Rattle.zarr_codecs_traits.specs.Outcomes.{Encodes}

-- a payload has a valid element for each place that is asked for of an array that the chain suits
pub record CanBePut (chain : Chain) (elements : Elements) (shape : List ℕ) (asked : Asked) (payload : Payload) : Type 0 where
  pub cells : List Cell
  pub valid : IsValid elements.type payload (length (numbers_asked shape asked)) cells
  pub fit : fits chain elements.type shape ≡ true
  pub inside : are_inside shape asked ≡ true

-- a payload is the elements of what is stored for an array
pub record IsStoredAs (chain : Chain) (elements : Elements) (shape : List ℕ) (stored : Option (List ℕ)) (payload : Payload) : Type 0 where
  pub cells : List Cell
  pub lists : cells_in elements.type payload ≡ Some cells
  pub is : chunk_decoded chain elements shape stored ≡ Some cells

-- the elements of what is stored for an array that the chain suits, or why there are none
abbrev pub GivesStored : Chain → Elements → List ℕ → Option (List ℕ) → Result ArrayBytes CodecError → Type 0
GivesStored chain elements shape stored (Ok bytes) = IsStoredAs chain elements shape stored (payload_of bytes)
GivesStored chain elements shape stored (Err error.Damage) = chunk_decoded chain elements shape stored ≡ None
GivesStored chain elements shape stored (Err error.Size) = IsTooLarge elements.type (product shape)
GivesStored chain elements shape stored (Err error.Memory) = Unit {0}
GivesStored chain elements shape stored (Err e) = ⊥

-- whether a payload has elements of the type, each the fill value
abbrev pub is_all_fill : Elements → Payload → Bool
is_all_fill elements payload = unwrap_or (option_map (is_fill elements.fill) (cells_in elements.type payload)) false

-- elements are encoded, or not, where the chain has a value for them: a chain with shards has none for fill alone
pub record EncodesKept (array : Coded) (exact : Bool) (payload : Payload) (result : Result (Vec ℕ Global) CodecError) : Type 0 where
  pub encodes : Encodes array exact payload result
  pub kept : is_plain array.chain ≡ false → is_all_fill array.elements payload ≡ false

-- the value that elements of an array are encoded to, or none where a chain with shards has fill alone, or why they are not encoded
abbrev pub EncodesOrDrops : Coded → Bool → Payload → Result (Option (Vec ℕ Global)) CodecError → Type 0
EncodesOrDrops array exact payload (Ok (Some value)) = EncodesKept array exact payload (Ok value)
EncodesOrDrops array exact payload (Ok None) = (is_plain array.chain ≡ false) × (is_all_fill array.elements payload ≡ true)
EncodesOrDrops array exact payload (Err e) = EncodesKept array exact payload (Err e)
