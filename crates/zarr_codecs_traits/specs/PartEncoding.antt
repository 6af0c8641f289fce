-- What is written into a value where some elements of its array are replaced.
use Rattle.std.specs.Prelude.{◌≡◌, ℕ, ◌*◌, List, [], map, length, get_or, Option, Some, None, Result, Ok, Err, Bool, true, false, ◌&&◌, if◌then◌else◌, IsTrue}
use Rattle.zarr_grids_boxes.specs.Boxes.{Region, product, ravel, is_in_box}
use Rattle.zarr_grids_boxes.specs.Walks.{number_in}
use Rattle.zarr_codecs_meaning.specs.Chains.{Chain}
use Rattle.zarr_codecs_meaning.specs.Chains.Chain.{bytes, packbits, vlen, optional, after_array_codec, then_bytes, sharded}
use Rattle.zarr_codecs_meaning.specs.Decoding.{decoded}
use Rattle.zarr_codecs_meaning.specs.Encoding.{encoded}
use Rattle.zarr_codecs_meaning.specs.Fits.{fits, is_lossless}
use Rattle.zarr_codecs_meaning.specs.Payloads.{Payload}
use Rattle.zarr_codecs_meaning.specs.Places.{places_of}
use Rattle.zarr_codecs_meaning.specs.Standing.{Stands}
use Rattle.zarr_codecs_meaning.specs.Types.{DataType, Cell, Elements, components, bytes_in, are_bytes, IsTooLarge}
use Rattle.zarr_codecs_arrays.specs.Outcomes.{IsInvalid, IsValid}
use Rattle.zarr_codecs_arrays.specs.Values.{takes_all_bytes}
use Rattle.zarr_codecs_arrays.specs.declared.error.CodecError.{CodecError}
use Rattle.zarr_codecs_arrays.specs.declared.error.CodecError.TheVariants as error
use Rattle.zarr_codecs_traits.specs.Arrays.{Coded}
use Rattle.zarr_codecs_traits.specs.Indexers.{Asked, in_box, listed, shape_has}
use Rattle.zarr_codecs_traits.specs.Patches.{Patch, any_too_far, patched, patches_in}
use Rattle.zarr_codecs_traits.specs.declared.value_patch.ValuePatches.{ValuePatches}

-- whether a chain encodes the elements of a box as ranges of bytes, which are the same whatever value they are written into: it is `bytes` alone
abbrev pub encodes_ranges : Chain → Bool
encodes_ranges (bytes order) = true
encodes_ranges (packbits padding first last) = false
encodes_ranges (vlen index «data» width location) = false
encodes_ranges (optional mask values) = false
encodes_ranges (after_array_codec codec chain) = false
encodes_ranges (then_bytes chain codec) = false
encodes_ranges (sharded subchunk inner index location) = false

-- whether some elements can be replaced in a value that nobody reads: the chain is `bytes` alone, it suits the type, and any bytes of the right number are elements
abbrev pub takes_patches : Chain → DataType → Bool
takes_patches (bytes order) type = fits (bytes order) type [] && takes_all_bytes type
takes_patches (packbits padding first last) type = false
takes_patches (vlen index «data» width location) type = false
takes_patches (optional mask values) type = false
takes_patches (after_array_codec codec chain) type = false
takes_patches (then_bytes chain codec) type = false
takes_patches (sharded subchunk inner index location) type = false

-- bytes are then decoded exactly where they are as many as the array's elements have
pub record DecodesBySize (chain : Chain) (elements : Elements) (shape value : List ℕ) : Type 0 where
  pub fit : fits chain elements.type shape ≡ true
  pub sized : length value ≡ product shape * bytes_in (components elements.type) → (cells : List Cell) × (decoded chain elements shape value ≡ Some cells)
  pub only : (cells : List Cell) → decoded chain elements shape value ≡ Some cells → length value ≡ product shape * bytes_in (components elements.type)

-- where some elements can be replaced in a value that nobody reads, each value of the right size is one of the array's
abbrev pub PatchedDecode : Type 0
PatchedDecode = (chain : Chain) (elements : Elements) (shape value : List ℕ) → takes_patches chain elements.type ≡ true → are_bytes value ≡ true → DecodesBySize chain elements shape value

-- the cells of an array after those of a box were replaced by new ones, row-major
abbrev pub cells_with_box : List ℕ → Cell → Region → List Cell → List Cell → List Cell
cells_with_box shape other region given before =
    map (λ place. if is_in_box region.start region.shape place then get_or given (number_in region place) other else get_or before (ravel place shape) other) (places_of shape)

-- ranges to be written into a value: it is then one of the elements of the array after those of a box were replaced
pub record IsEncodedPart (array : Coded) (exact : Bool) (region : Region) (payload : Payload) (patches : List Patch) : Type 0 where
  pub cells : List Cell
  pub ranges : encodes_ranges array.chain ≡ true
  pub valid : IsValid array.elements.type payload (product region.shape) cells
  pub fit : fits array.chain array.elements.type array.shape ≡ true
  pub inside : shape_has array.shape region ≡ true
  pub near : any_too_far patches ≡ false
  pub encodes : IsTrue exact → (value : List ℕ) (before : List Cell) → decoded array.chain array.elements array.shape value ≡ Some before
      → encoded array.chain array.elements array.shape (cells_with_box array.shape array.elements.fill region cells before) ≡ Some (patched value patches)
  pub stands : is_lossless array.chain array.elements.type ≡ true → (value : List ℕ) (before : List Cell) → decoded array.chain array.elements array.shape value ≡ Some before
      → Stands array.chain array.elements array.shape (patched value patches) (cells_with_box array.shape array.elements.fill region cells before)

-- the ranges to be written where the elements at the places of a box are replaced, or why there are none; the value is written whole exactly where the chain encodes no ranges
abbrev pub EncodesPart : Coded → Bool → Region → Payload → Result (Option ValuePatches) CodecError → Type 0
EncodesPart array exact region payload (Ok (Some patches)) = IsEncodedPart array exact region payload (patches_in patches)
EncodesPart array exact region payload (Ok None) = encodes_ranges array.chain ≡ false
EncodesPart array exact region payload (Err error.Fit) = fits array.chain array.elements.type array.shape ≡ false
EncodesPart array exact region payload (Err error.IncompatibleIndexer) = shape_has array.shape region ≡ false
EncodesPart array exact region payload (Err error.Size) = IsTooLarge array.elements.type (product array.shape)
EncodesPart array exact region payload (Err error.Memory) = Unit {0}
EncodesPart array exact region payload (Err e) = (fits array.chain array.elements.type array.shape ≡ true) × IsInvalid array.elements.type payload (product region.shape) e

-- the ranges to be written where the elements at the places that are asked for are replaced; where they are asked for by their numbers, the value is written whole
abbrev pub EncodesAsked : Coded → Bool → Asked → Payload → Result (Option ValuePatches) CodecError → Type 0
EncodesAsked array exact (in_box region) payload result = EncodesPart array exact region payload result
EncodesAsked array exact (listed numbers) payload (Ok None) = Unit {0}
EncodesAsked array exact (listed numbers) payload (Ok (Some patches)) = ⊥
EncodesAsked array exact (listed numbers) payload (Err error.Memory) = Unit {0}
EncodesAsked array exact (listed numbers) payload (Err e) = ⊥
